use Rattle.std.proofs.Common.{◌≡◌, ◌+◌, ◌<◌, ◌≤◌, ◌-◌, length, get_or, ap, sym, refl, ◌∙◌, arith}
use Rattle.section_store.specs.Extents.{no_extent, bytes_at, extent_at, end_of}
use Rattle.section_store.specs.RegionState.{resized}
use Rattle.section_store.proofs.ExtentLemmas.{strings_in-set, extent_read, bytes_at-before, bytes_at-grown}
use Rattle.section_store.proofs.extents.grow_copied.Goals as goal

pub returns-clause-strings : goal.returns-clause-strings
returns-clause-strings c =
    let es = c.args.extents.now.items in
    let b = c.args.buffer.now.items in
    let mid = c.resize.new.self.items in
    let b' = c.copy_bytes.new.buffer.items in
    let p = c.args.place in
    let e = c.index-extent.result.now in
    let read : extent_at p es ≡ e = extent_read es p e c.requires.there c.index-extent.ensures in
    let inside : end_of (extent_at p es) ≤ length b = c.requires.laid.within p no_extent c.requires.there in
    let within : end_of e ≤ length b = omega (arith, ap end_of read, inside) in
    let more : e.len < c.args.len = omega (arith, ap (λ x. x.len) read, c.requires.longer) in
    let end : c.len-end.result ≡ length b = omega (arith, c.len-end.ensures) in
    let middle : length mid ≡ length b + c.args.len = omega (arith, c.in-Ok.ensures.len) in
    let size : length b' ≡ length b + c.args.len = omega (arith, c.copy_bytes.ensures.len) in
    strings_in-set b b' (resized c.args.len) es p _ c.requires.there
    (λ k lt other. bytes_at-before b b' (extent_at k es) (length b) (c.requires.laid.within k _ lt) (omega arith) (omega arith)
    (λ i lt_i. c.copy_bytes.ensures.before i 0 (omega arith) ∙ c.in-Ok.ensures.by_index.0 i 0 (omega arith) (omega arith)))
    (bytes_at-grown b b' e.start c.len-end.result e.len c.args.len within (omega arith) (omega arith)
    (λ k lt. c.copy_bytes.ensures.copied (c.len-end.result + k) 0 (omega arith) (omega arith) ∙ ap (λ n. get_or mid (e.start + n) 0) (let same : c.len-end.result + k - c.len-end.result ≡ k = omega arith in same)
    ∙ c.in-Ok.ensures.by_index.0 (e.start + k) 0 (omega arith) (omega arith))
    (λ k from below. c.copy_bytes.ensures.behind (c.len-end.result + k) 0 (omega arith) ∙ c.in-Ok.ensures.by_index.1 (c.len-end.result + k) 0 refl (omega arith) (omega arith)) ∙ ap (λ x. resized c.args.len (bytes_at b x)) (sym read))
