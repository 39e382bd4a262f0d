-- The count of faults after a call, each row by computation.
use Rattle.std.proofs.Common.{◌≡◌, refl, ℕ, ◌^◌, ◌-◌, List, [], ◌∷◌, map, Result, Ok, Err}
use Rattle.outside_io.specs.Causes.{faults_after, last_count}

-- a call that moved so many bytes, and one that failed
abbrev moved : ℕ → Result ℕ (Unit {0})
moved count = Ok count

abbrev failed : Result ℕ (Unit {0})
failed = Err tt

-- each count before a call, and what the call gave, and the count after it
abbrev Count : List ((ℕ × Result ℕ (Unit {0})) × ℕ) → Type 0
Count rows = map {B = ℕ} (λ r. faults_after r.0.0 r.0.1) rows ≡ map (λ r. r.1) rows

counts : Count (
    ((0, moved 2), 0)
    ∷ ((0, failed), 1)
    ∷ ((1, moved 1), 1)
    ∷ ((1, moved 0), 1)
    ∷ ((1, failed), 2)
    ∷ ((last_count - 1, failed), last_count)
    ∷ ((last_count, failed), last_count)
    ∷ ((last_count, moved 1), last_count)
    ∷ [])
counts = refl
