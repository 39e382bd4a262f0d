use Rattle.std.proofs.Common.{◌≡◌, ◌≢◌, ℕ, ◌+◌, ◌<◌, ◌≤◌, ◌⊎◌, length, get_or, inl, inr, ap, sym, subst, ◌∙◌, arith}
use Rattle.section_store.specs.Extents.{bytes_at, extent_at, end_of, AreApart}
use Rattle.section_store.specs.RegionState.{resized}
use Rattle.section_store.proofs.ExtentLemmas.{strings_in-set, extent_read, bytes_at-before, bytes_at-cut, IsCutBuffer, cut-first, cut-within, AreLaid-set}
use Rattle.section_store.proofs.extents.cut.Goals as goal
use Rattle.section_store.proofs.extents.cut.Goals.{then-extent-len, else-extent-len, then-len-eq0, else-len-eq0}

-- what becomes of the buffer
cut_buffer : (c : goal.After-extents-1) → IsCutBuffer c.args.buffer.now.items c.if-extent-len.buffer.items c.index-extent.result.now c.args.len
cut_buffer c = elim c.if-extent-len.branch [
  | then-extent-len w ↦ inr (ap (λ v. v.items) w.buffer-is ∙ w.truncate.ensures.items, omega (arith, w.if-extent-len.true, c.len.ensures))
  | else-extent-len w ↦ inl (ap (λ v. v.items) w.buffer-is)
]

-- where the string starts then
cut_start : (c : goal.After-extents-1) → ((c.args.len ≡ 0) × (c.if-len-eq0.start ≡ 0)) ⊎ ((c.args.len ≢ 0) × (c.if-len-eq0.start ≡ c.index-extent.result.now.start))
cut_start c = elim c.if-len-eq0.branch [
  | then-len-eq0 w ↦ inl (omega arith, omega arith)
  | else-len-eq0 w ↦ inr (omega arith, omega arith)
]

-- the string that is cut lies in the buffer, apart from another one
apart_at : (c : goal.After-extents-1) (k : ℕ) → k < length c.args.extents.now.items → k ≢ c.args.place → AreApart c.index-extent.result.now (extent_at k c.args.extents.now.items)
apart_at c k lt other =
    subst (λ x. AreApart x (extent_at k c.args.extents.now.items)) (extent_read c.args.extents.now.items c.args.place c.index-extent.result.now c.requires.there c.index-extent.ensures)
    (c.requires.laid.apart c.args.place k _ (λ is. other (sym is)) c.requires.there lt)

pub returns-clause-strings : goal.returns-clause-strings
returns-clause-strings c =
    let es = c.args.extents.now.items in
    let b = c.args.buffer.now.items in
    let b' = c.if-extent-len.buffer.items in
    let p = c.args.place in
    let e = c.index-extent.result.now in
    let read : extent_at p es ≡ e = extent_read es p e c.requires.there c.index-extent.ensures in
    let within : end_of e ≤ length b = omega (arith, ap end_of read, c.requires.laid.within p (extent_at p es) c.requires.there) in
    let shorter : c.args.len ≤ e.len = omega (arith, ap (λ x. x.len) read, c.requires.shorter) in
    let (long, less, first) = cut-first b b' e c.args.len (cut_buffer c) shorter within in
    strings_in-set b b' (resized c.args.len) es p _ c.requires.there
    (λ k lt other.
    let before = cut-within b b' e (extent_at k es) c.args.len (cut_buffer c) shorter within (apart_at c k lt other) (c.requires.laid.within k _ lt) (c.requires.laid.empty k _ lt) in
    bytes_at-before b b' (extent_at k es) (length b') before less (omega arith) first)
    (elim (cut_start c) [
      | inl none ↦ bytes_at-cut b b' e.start c.if-len-eq0.start e.len c.args.len within shorter (omega (arith, none.0, none.1)) (λ k lt. absurd (omega (arith, none.0)))
      | inr some ↦ bytes_at-cut b b' e.start c.if-len-eq0.start e.len c.args.len within shorter (omega (arith, some.1)) (λ k lt. ap (λ s. get_or b' (s + k) 0) some.1 ∙ first (e.start + k) (omega arith))
    ] ∙ ap (λ x. resized c.args.len (bytes_at b x)) (sym read))

pub returns-clause-laid : goal.returns-clause-laid
returns-clause-laid c =
    let es = c.args.extents.now.items in
    let b = c.args.buffer.now.items in
    let b' = c.if-extent-len.buffer.items in
    let p = c.args.place in
    let e = c.index-extent.result.now in
    let read : extent_at p es ≡ e = extent_read es p e c.requires.there c.index-extent.ensures in
    let within : end_of e ≤ length b = omega (arith, ap end_of read, c.requires.laid.within p (extent_at p es) c.requires.there) in
    let shorter : c.args.len ≤ e.len = omega (arith, ap (λ x. x.len) read, c.requires.shorter) in
    let (long, less, first) = cut-first b b' e c.args.len (cut_buffer c) shorter within in
    AreLaid-set (length b) (length b') es p _ c.requires.laid c.requires.there
    (λ k lt other. cut-within b b' e (extent_at k es) c.args.len (cut_buffer c) shorter within (apart_at c k lt other) (c.requires.laid.within k _ lt) (c.requires.laid.empty k _ lt))
    (λ k lt other. elim (cut_start c) [
      | inl none ↦ inl (omega (arith, none.0, none.1))
      | inr some ↦ elim (apart_at c k lt other) [
        | inl front ↦ inl (omega (arith, some.1))
        | inr behind ↦ inr (omega (arith, some.1))
      ]
    ])
    (elim (cut_start c) [ inl none ↦ omega (arith, none.0, none.1) | inr some ↦ omega (arith, some.1) ])
    (λ is. elim (cut_start c) [ inl none ↦ none.1 | inr some ↦ absurd (some.0 is) ])
