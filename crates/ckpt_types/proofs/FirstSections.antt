-- The first of the sections, and the next one: their bytes, and what is present of them.
use Rattle.std.proofs.Common.{◌≡◌, ℕ, suc, ◌+◌, ◌≤◌, List, [], ◌∷◌, ◌++◌, length, take, slice_get, Some, true, false, if◌then◌else◌, ℤ, ap, ◌∙◌, arith, length-append, append-nil}
use Rattle.std.proofs.Math.Seq.{take-suc}
use Rattle.std.proofs.lemmas.List.Elements.{filter-append}
use Rattle.std.proofs.lemmas.List.Sums.{sum_by-append, sum_by-take-le}
use Rattle.std.proofs.lemmas.Option.{get_or_from_slice_get, slice_get_within}
use Rattle.ckpt_types.specs.Sections.{Section, is_present, present, size_of, memory_used}

-- the first sections, and the next one
pub take-next : (sections : List Section) (i : ℕ) (s : Section) → slice_get sections i ≡ Some s → take (i + 1) sections ≡ take i sections ++ s ∷ []
take-next sections i s is =
    let next : i + 1 ≡ suc i = omega arith in
    ap (λ n. take n sections) next ∙ take-suc sections i s (slice_get_within sections i s is) ∙ ap (λ x. take i sections ++ x ∷ []) (get_or_from_slice_get sections i s s is)

-- the bytes of the first sections, and of the next one
pub memory_used-next : (sections : List Section) (i : ℕ) (s : Section) → slice_get sections i ≡ Some s → memory_used (take (i + 1) sections) ≡ memory_used (take i sections) + size_of s
memory_used-next sections i s is = omega (arith, ap memory_used (take-next sections i s is), sum_by-append size_of (take i sections) (s ∷ []))

-- the first sections have at most the bytes of all
pub memory_used-take-le : (sections : List Section) (i : ℕ) → memory_used (take i sections) ≤ memory_used sections
memory_used-take-le sections i = sum_by-take-le size_of sections i

-- the next section has room where all have
pub memory_used-room : (sections : List Section) (i : ℕ) (s : Section) → slice_get sections i ≡ Some s → memory_used (take i sections) + size_of s ≤ memory_used sections
memory_used-room sections i s is = omega (arith, memory_used-next sections i s is, memory_used-take-le sections (i + 1))

-- those present of the first, and the next one
present-next : (t : ℤ) (sections : List Section) (i : ℕ) (s : Section) → slice_get sections i ≡ Some s → present t (take (i + 1) sections) ≡ present t (take i sections) ++ (if is_present t s then s ∷ [] else [])
present-next t sections i s is = ap (present t) (take-next sections i s is) ∙ filter-append (is_present t) (take i sections) (s ∷ [])

-- what is counted of the first and the next one, which is present
pub totals-present : (t : ℤ) (sections : List Section) (i : ℕ) (s : Section) → slice_get sections i ≡ Some s → is_present t s ≡ true
    → (length (present t (take (i + 1) sections)) ≡ length (present t (take i sections)) + 1) × (memory_used (present t (take (i + 1) sections)) ≡ memory_used (present t (take i sections)) + size_of s)
totals-present t sections i s is here =
    let before = present t (take i sections) in
    let more : present t (take (i + 1) sections) ≡ before ++ s ∷ [] = present-next t sections i s is ∙ ap (λ b. before ++ (if b then s ∷ [] else [])) here in
    (ap length more ∙ length-append before (s ∷ []), omega (arith, ap memory_used more, sum_by-append size_of before (s ∷ [])))

-- what is counted stays where the next one is absent
pub totals-absent : (t : ℤ) (sections : List Section) (i : ℕ) (s : Section) → slice_get sections i ≡ Some s → is_present t s ≡ false → present t (take (i + 1) sections) ≡ present t (take i sections)
totals-absent t sections i s is gone =
    let before = present t (take i sections) in
    present-next t sections i s is ∙ ap (λ b. before ++ (if b then s ∷ [] else [])) gone ∙ append-nil before
