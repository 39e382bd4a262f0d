-- Times at their bounds, each row by computation.
use Rattle.std.proofs.Common.{◌≡◌, refl, ℕ, ◌^◌, ◌-◌, true, false, Bool, List, [], ◌∷◌, map, ℤ, pos, negsuc}
use Rattle.moment_rules.specs.Times.{never, is_expired, is_reached, sum_until_end}

-- the last moment, and the last below that
abbrev last : ℤ
last = pos (2 ^ 63 - 2)

abbrev last_but_one : ℤ
last_but_one = pos (2 ^ 63 - 3)

-- the least number of a time
abbrev least : ℤ
least = negsuc (2 ^ 63 - 1)

-- each time and moment of the table, and whether the time has expired then, and is reached
abbrev Come : List ((ℤ × ℤ) × (Bool × Bool)) → Type 0
Come rows = map {B = Bool × Bool} (λ r. (is_expired r.0.0 r.0.1, is_reached r.0.0 r.0.1)) rows ≡ map (λ r. r.1) rows

come : Come (
    ((pos 5, pos 4), (false, false))
    ∷ ((pos 5, pos 5), (true, true))
    ∷ ((pos 5, pos 6), (true, true))
    ∷ ((pos 0, pos 0), (true, true))
    ∷ ((least, least), (true, true))
    ∷ ((pos 0, negsuc 0), (false, false))
    ∷ ((last, last), (true, true))
    ∷ ((never, pos 0), (false, false))
    ∷ ((never, last), (false, false))
    ∷ ((never, never), (true, false))
    ∷ [])
come = refl

-- each moment and duration of the table, and their sum
abbrev Sum : List ((ℤ × ℤ) × ℤ) → Type 0
Sum rows = map {B = ℤ} (λ r. sum_until_end r.0.0 r.0.1) rows ≡ map (λ r. r.1) rows

sums : Sum (
    ((pos 0, pos 0), pos 0)
    ∷ ((pos 7, pos 5), pos 12)
    ∷ ((last, pos 0), last)
    ∷ ((last_but_one, pos 1), last)
    ∷ ((last, pos 1), never)
    ∷ ((last, pos 2), never)
    ∷ ((pos 1, never), never)
    ∷ ((never, never), never)
    ∷ [])
sums = refl
