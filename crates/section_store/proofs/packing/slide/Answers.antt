use Rattle.std.proofs.Common.{◌≡◌, ◌+◌, ◌-◌, ◌≤◌, length, get_or, inl, inr, ap, sym, ◌∙◌, arith}
use Rattle.section_store.specs.Extents.{bytes_at, extent_at, end_of}
use Rattle.section_store.proofs.ExtentLemmas.{strings_in-set-same, extent_read, bytes_at-moved}
use Rattle.section_store.proofs.packing.slide.Goals as goal

pub returns-clause-strings : goal.returns-clause-strings
returns-clause-strings c =
    let es = c.args.extents.now.items in
    let b = c.args.buffer.now.items in
    let b' = c.copy_down.new.buffer.items in
    let p = c.args.place in
    let start = c.args.start in
    let e = c.index-extent.result.now in
    let read : extent_at p es ≡ e = extent_read es p e c.requires.there c.index-extent.ensures in
    let within : end_of e ≤ length b = omega (arith, ap end_of read, c.requires.laid.within p (extent_at p es) c.requires.there) in
    let down : start ≤ e.start = omega (arith, ap (λ x. x.start) read, c.requires.down) in
    let size : length b' ≡ length b = omega (arith, c.copy_down.ensures.len) in
    strings_in-set-same b b' es p _ c.requires.there
    (λ k lt other.
    let a = extent_at k es in
    let within_a : end_of a ≤ length b = c.requires.laid.within k _ lt in
    bytes_at-moved b b' a.start a.start a.len within_a (omega arith)
    (λ i lt_i. elim (c.requires.free k lt other) [
      | inl before ↦ c.copy_down.ensures.before (a.start + i) 0 (omega arith)
      | inr behind ↦ c.copy_down.ensures.behind (a.start + i) 0 (omega (arith, ap end_of read))
    ]))
    (bytes_at-moved b b' e.start start e.len within (omega arith)
    (λ i lt_i. c.copy_down.ensures.copied (start + i) 0 (omega arith) (omega arith) ∙ ap (λ n. get_or b (e.start + n) 0) (let same : start + i - start ≡ i = omega arith in same)) ∙ ap (bytes_at b) (sym read))
