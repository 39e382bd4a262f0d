-- The earliest expiration of the sections, where one of them is changed, put in or taken away.
use Rattle.std.proofs.Common.{◌≡◌, ℕ, zero, suc, List, [], ◌∷◌, Some, slice_get, insert, remove, ℤ, ◌<ℤ◌, ◌≤ℤ◌, ap, ◌∙◌, refl, arith}
use Rattle.std.specs.Int.{int_min}
use Rattle.std.proofs.lemmas.Int.{ints, clamps}
use Rattle.std.proofs.lemmas.Option.{none-some, same_Some}
use Rattle.ckpt_types.specs.Limits.{end_of_time}
use Rattle.ckpt_types.specs.Sections.{Section, earliest_expiration}
use Rattle.ckpt_types.proofs.Expirations.{earliest_expiration-le}
use Rattle.section_store.specs.Places.{changed_at}
use Rattle.section_store.specs.Summary.{IsEarliestBut}

-- a change that leaves the expirations leaves the earliest
pub earliest_expiration-changed_at : (change : Section → Section) (i : ℕ) (sections : List Section) → ((s : Section) → (change s).expiration ≡ s.expiration) → earliest_expiration (changed_at change i sections) ≡ earliest_expiration sections
earliest_expiration-changed_at change i [] same = refl
earliest_expiration-changed_at change zero (s ∷ sections) same = ap (λ t. int_min t (earliest_expiration sections)) (same s)
earliest_expiration-changed_at change (suc i) (s ∷ sections) same = ap (int_min s.expiration) (earliest_expiration-changed_at change i sections same)

-- with one more, the earliest is that of both
pub earliest_expiration-insert : (sections : List Section) (i : ℕ) (s : Section) → earliest_expiration (insert sections i s) ≡ int_min (earliest_expiration sections) s.expiration
earliest_expiration-insert [] zero s = omega (arith, ints, clamps)
earliest_expiration-insert [] (suc i) s = omega (arith, ints, clamps)
earliest_expiration-insert (x ∷ sections) zero s = omega (arith, ints, clamps)
earliest_expiration-insert (x ∷ sections) (suc i) s =
    let rest = earliest_expiration-insert sections i s in
    ap (int_min x.expiration) rest ∙ omega (arith, ints, clamps)

-- ---- behind a section that is gone, or that expires at another moment

-- where a section goes, the earliest was that of it and the others
pub IsEarliestBut-remove : (sections : List Section) (i : ℕ) (s : Section) → slice_get sections i ≡ Some s → IsEarliestBut s.expiration (earliest_expiration sections) (remove sections i)
IsEarliestBut-remove [] i s is = absurd (none-some s is)
IsEarliestBut-remove (x ∷ sections) zero s is = ap (λ y. int_min y.expiration (earliest_expiration sections)) (same_Some x s is)
IsEarliestBut-remove (x ∷ sections) (suc i) s is =
    let rest = IsEarliestBut-remove sections i s is in
    ap (int_min x.expiration) rest ∙ omega (arith, ints, clamps)

-- where a section expires at another moment, that moment and the earliest before come to both of its expirations and those of the others
pub IsEarliestBut-changed_at : (t : ℤ) (sections : List Section) (i : ℕ) (s : Section) → slice_get sections i ≡ Some s → IsEarliestBut s.expiration (int_min (earliest_expiration sections) t) (changed_at (λ s. record s { expiration = t }) i sections)
IsEarliestBut-changed_at t [] i s is = absurd (none-some s is)
IsEarliestBut-changed_at t (x ∷ sections) zero s is = ap (λ y. int_min (int_min y.expiration (earliest_expiration sections)) t) (same_Some x s is) ∙ omega (arith, ints, clamps)
IsEarliestBut-changed_at t (x ∷ sections) (suc i) s is =
    let rest : int_min (earliest_expiration sections) t ≡ int_min s.expiration (earliest_expiration (changed_at (λ s. record s { expiration = t }) i sections)) = IsEarliestBut-changed_at t sections i s is in
    omega (arith, ints, clamps, rest)

-- where the one that is gone expired behind the earliest, that is the earliest still
pub IsEarliestBut-behind : (gone earliest : ℤ) (sections : List Section) → earliest <ℤ gone → IsEarliestBut gone earliest sections → earliest ≡ earliest_expiration sections
IsEarliestBut-behind gone earliest sections behind is = omega (arith, ints, clamps, is)

-- one that never expired is missed by none
pub IsEarliestBut-never : (gone earliest : ℤ) (sections : List Section) → gone ≡ end_of_time → IsEarliestBut gone earliest sections → earliest ≡ earliest_expiration sections
IsEarliestBut-never gone earliest sections never is =
    let within : earliest_expiration sections ≤ℤ end_of_time = earliest_expiration-le sections in
    let last : earliest ≡ int_min end_of_time (earliest_expiration sections) = is ∙ ap (λ t. int_min t (earliest_expiration sections)) never in
    omega (arith, ints, clamps)
