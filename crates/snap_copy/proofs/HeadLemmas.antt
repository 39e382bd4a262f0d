-- Sections whose bytes stand in one buffer: they stay with bytes behind, and one more stands behind them.
use Rattle.std.proofs.Common.{◌≡◌, ℕ, ◌+◌, ◌-◌, List, [], ◌∷◌, ◌++◌, length, take, drop, ap, ◌∙◌, sym, refl, arith, length-drop}
use Rattle.std.proofs.lemmas.List.{length-map, map-append, take-append-le, drop-append-le, drop_at, take_all}
use Rattle.std.proofs.lemmas.List.Elements.{All-head, All-tail}
use Rattle.ckpt_types.specs.Sections.{Section}
use Rattle.snap_copy.specs.Heads.{section_in, sections_in, IsWithin, AreWithin}
use Rattle.snap_copy.specs.declared.heads.Head.{Head}

-- there are as many sections as heads
pub length-sections_in : (bytes : List ℕ) (heads : List Head) → length (sections_in bytes heads) ≡ length heads
length-sections_in bytes heads = length-map heads (section_in bytes)

-- the section of a head stays with bytes behind
section_in-more : (bytes more : List ℕ) (h : Head) → IsWithin (length bytes) h → section_in (bytes ++ more) h ≡ section_in bytes h
section_in-more bytes more h is =
    let begins = is.begins in
    let ends = is.ends in
    let same : take (h.end - h.start) (drop h.start (bytes ++ more)) ≡ take (h.end - h.start) (drop h.start bytes) =
    ap (take (h.end - h.start)) (drop-append-le h.start bytes more (omega arith)) ∙ take-append-le (h.end - h.start) (drop h.start bytes) more (omega (arith, length-drop h.start bytes)) in
    λ i. record { id = h.id; bytes = same i; expiration = h.expiration; state = h.state; last_update = h.last_update }

-- the sections stay with bytes behind
sections_in-more : (bytes more : List ℕ) (heads : List Head) → AreWithin (length bytes) heads → sections_in (bytes ++ more) heads ≡ sections_in bytes heads
sections_in-more bytes more [] within = refl
sections_in-more bytes more (h ∷ heads) within =
    let first = section_in-more bytes more h (All-head (IsWithin (length bytes)) h heads within) in
    let rest = sections_in-more bytes more heads (All-tail (IsWithin (length bytes)) h heads within) in
    λ i. first i ∷ rest i

-- what stands from the end of the bytes on are those behind
pub bytes-behind : (bytes more : List ℕ) (start end : ℕ) → start ≡ length bytes → end ≡ length bytes + length more → take (end - start) (drop start (bytes ++ more)) ≡ more
bytes-behind bytes more start end begins ends = ap (take (end - start)) (drop_at bytes more start (sym begins)) ∙ take_all (end - start) more (omega arith)

-- a head more has its section behind the others
pub sections_in-push : (bytes more : List ℕ) (heads : List Head) (h : Head) (s : Section) → AreWithin (length bytes) heads → section_in (bytes ++ more) h ≡ s → sections_in (bytes ++ more) (heads ++ h ∷ []) ≡ sections_in bytes heads ++ s ∷ []
sections_in-push bytes more heads h s within is =
    map-append (section_in (bytes ++ more)) heads (h ∷ []) ∙ (λ i. sections_in-more bytes more heads within i ++ is i ∷ [])
