-- The earliest expiration of the sections, before which all are present.
use Rattle.std.proofs.Common.{◌≡◌, ℕ, ◌+◌, List, [], ◌∷◌, ◌++◌, take, slice_get, Some, true, All, ℤ, ◌≤ℤ◌, ◌<ℤ◌, int_lt, ap, ◌∙◌, refl, arith}
use Rattle.std.specs.Int.{int_min}
use Rattle.std.proofs.lemmas.Int.{ints, clamps}
use Rattle.std.proofs.lemmas.List.Elements.{All-head, All-tail, All-nil, All-cons, All-weaker}
use Rattle.ckpt_types.specs.Limits.{end_of_time}
use Rattle.ckpt_types.specs.Sections.{Section, present, earliest_expiration}
use Rattle.ckpt_types.proofs.FirstSections.{take-next}

-- before the earliest expiration all are present
pub present-before_earliest : (t : ℤ) (sections : List Section) → t <ℤ earliest_expiration sections → present t sections ≡ sections
present-before_earliest t [] before = refl
present-before_earliest t (s ∷ sections) before =
    let here : int_lt t s.expiration ≡ true = grind (arith, ints) in
    let rest : t <ℤ earliest_expiration sections = omega (arith, ints, clamps) in
    rw here (ap (λ xs. s ∷ xs) (present-before_earliest t sections rest))

-- the earliest of some and of one more behind them
pub earliest_expiration-push : (sections : List Section) (s : Section) → earliest_expiration (sections ++ s ∷ []) ≡ int_min (earliest_expiration sections) s.expiration
earliest_expiration-push [] s = omega (arith, ints, clamps)
earliest_expiration-push (x ∷ sections) s =
    let rest = earliest_expiration-push sections s in
    ap (int_min x.expiration) rest ∙ omega (arith, ints, clamps)

-- the earliest of the first sections and of the next one
pub earliest_expiration-next : (sections : List Section) (i : ℕ) (s : Section) → slice_get sections i ≡ Some s → earliest_expiration (take (i + 1) sections) ≡ int_min (earliest_expiration (take i sections)) s.expiration
earliest_expiration-next sections i s is = ap earliest_expiration (take-next sections i s is) ∙ earliest_expiration-push (take i sections) s

-- none expires before the earliest expiration
pub earliest_expiration-All : (sections : List Section) → All (λ s. earliest_expiration sections ≤ℤ s.expiration) sections
earliest_expiration-All [] = All-nil (λ s. end_of_time ≤ℤ s.expiration)
earliest_expiration-All (s ∷ sections) =
    let first : ℤ = earliest_expiration (s ∷ sections) in
    let here : first ≤ℤ s.expiration = omega (arith, ints, clamps) in
    let rest : first ≤ℤ earliest_expiration sections = omega (arith, ints, clamps) in
    All-cons (λ x. first ≤ℤ x.expiration) s sections here (All-weaker (λ x. earliest_expiration sections ≤ℤ x.expiration) (λ x. first ≤ℤ x.expiration) (λ x later. omega (arith, ints)) sections (earliest_expiration-All sections))

-- where none expires before a moment, the earliest expiration is not before it
pub le-earliest_expiration : (m : ℤ) (sections : List Section) → m ≤ℤ end_of_time → All (λ s. m ≤ℤ s.expiration) sections → m ≤ℤ earliest_expiration sections
le-earliest_expiration m [] within later = within
le-earliest_expiration m (s ∷ sections) within later =
    let here : m ≤ℤ s.expiration = All-head (λ s. m ≤ℤ s.expiration) s sections later in
    let rest : m ≤ℤ earliest_expiration sections = le-earliest_expiration m sections within (All-tail (λ s. m ≤ℤ s.expiration) s sections later) in
    omega (arith, ints, clamps)

-- it is not behind the end of time
pub earliest_expiration-le : (sections : List Section) → earliest_expiration sections ≤ℤ end_of_time
earliest_expiration-le [] = omega (arith, ints)
earliest_expiration-le (s ∷ sections) =
    let rest : earliest_expiration sections ≤ℤ end_of_time = earliest_expiration-le sections in
    omega (arith, ints, clamps)
