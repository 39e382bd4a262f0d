use Rattle.std.proofs.Common.{rules}
use Rattle.ckpt_types.proofs.EndsLemmas.{slice_get-pieces_between, start_before-le, slice_index-le}
use Rattle.section_iter.proofs.ids.id_at.Goals as goal

pub slice_bounds-result-count : goal.slice_bounds-result-count
slice_bounds-result-count c = rw c.start_before-start.ensures (start_before-le 0 c.args.ends.now _ c.args.place c.requires.kept.follow c.requires.there)

pub slice_bounds-result-end : goal.slice_bounds-result-end
slice_bounds-result-end c = search (rules, slice_index-le 0 c.args.ends.now _ c.args.place c.requires.kept.follow c.requires.there)

pub slice_bounds-result-start : goal.slice_bounds-result-start
slice_bounds-result-start c =
    let begins = rw (← c.start_before-start.ensures) at (start_before-le 0 c.args.ends.now _ c.args.place c.requires.kept.follow c.requires.there) in
    search (rules, begins)

pub returns : goal.returns
returns c = rw c.start_before-start.ensures (slice_get-pieces_between 0 c.args.ends.now c.args.bytes.now c.args.place c.requires.there)
