use Rattle.std.proofs.Common.{rules}
use Rattle.ckpt_types.proofs.EndsLemmas.{IsPart-at}
use Rattle.ckpt_types.proofs.piece_room.piece_between.Goals as goal

pub slice_bounds-result-count : goal.slice_bounds-result-count
slice_bounds-result-count c = (IsPart-at c.args.breaks.now c.args.bytes.now c.args.place _ _ c.requires.ends c.requires.there c.start_before-start.ensures c.end_at-end.ensures).begins

pub slice_bounds-result-start : goal.slice_bounds-result-start
slice_bounds-result-start c =
    let part = IsPart-at c.args.breaks.now c.args.bytes.now c.args.place _ _ c.requires.ends c.requires.there c.start_before-start.ensures c.end_at-end.ensures in
    search (rules, part.begins)

pub slice_bounds-result-end : goal.slice_bounds-result-end
slice_bounds-result-end c =
    let part = IsPart-at c.args.breaks.now c.args.bytes.now c.args.place _ _ c.requires.ends c.requires.there c.start_before-start.ensures c.end_at-end.ensures in
    search (rules, part.ends)

pub returns : goal.returns
returns c = (IsPart-at c.args.breaks.now c.args.bytes.now c.args.place _ _ c.requires.ends c.requires.there c.start_before-start.ensures c.end_at-end.ensures).piece
