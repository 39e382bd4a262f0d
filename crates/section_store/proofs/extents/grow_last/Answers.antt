use Rattle.std.proofs.Common.{◌≡◌, ◌<◌, length, ap, sym, refl, ◌+◌, ◌∙◌, arith}
use Rattle.section_store.specs.Extents.{bytes_at, extent_at, end_of}
use Rattle.section_store.specs.RegionState.{resized}
use Rattle.section_store.proofs.ExtentLemmas.{strings_in-set, extent_read, bytes_at-before, bytes_at-grown}
use Rattle.section_store.proofs.extents.grow_last.Goals as goal

pub returns-clause-strings : goal.returns-clause-strings
returns-clause-strings c =
    let es = c.args.extents.now.items in
    let b = c.args.buffer.now.items in
    let b' = c.resize.new.self.items in
    let p = c.args.place in
    let e = c.index-extent.result.now in
    let read : extent_at p es ≡ e = extent_read es p e c.requires.there c.index-extent.ensures in
    let ends : end_of e ≡ length b = omega (arith, ap end_of read, c.requires.last) in
    let more : e.len < c.args.len = omega (arith, ap (λ x. x.len) read, c.requires.longer) in
    let size : length b' ≡ e.start + c.args.len = omega (arith, c.in-Ok.ensures.len) in
    strings_in-set b b' (resized c.args.len) es p _ c.requires.there
    (λ k lt other. bytes_at-before b b' (extent_at k es) (length b) (c.requires.laid.within k _ lt) (omega arith) (omega arith) (λ i lt_i. c.in-Ok.ensures.by_index.0 i 0 (omega arith) (omega arith)))
    (bytes_at-grown b b' e.start e.start e.len c.args.len (omega arith) (omega arith) (omega arith)
    (λ k lt. c.in-Ok.ensures.by_index.0 (e.start + k) 0 (omega arith) (omega arith))
    (λ k from below. c.in-Ok.ensures.by_index.1 (e.start + k) 0 refl (omega arith) (omega arith)) ∙ ap (λ x. resized c.args.len (bytes_at b x)) (sym read))
