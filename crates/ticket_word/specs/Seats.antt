-- A word and its seats, as callers see them, and what becomes of a seat.
use Rattle.std.specs.Prelude.{◌≡◌, ℕ, ◌+◌, ◌-◌, ◌==◌, if◌then◌else◌, nat_lt, List, [], ◌∷◌, ◌++◌, count_by}
use Rattle.atomic_table.specs.Seated.{TableId}

-- which word it is, and how many tickets may be drawn from it in all
pub record WordName : Type 0 where
  pub table : TableId
  pub total : ℕ

-- a seat: the word from which it draws, the tickets that it has, and how many more it may draw
pub record SeatState : Type 0 where
  pub word : WordName
  pub tickets : List ℕ
  pub allowance : ℕ

-- a seat that has no ticket, and may draw so many
abbrev pub new_seat : ℕ → WordName → SeatState
new_seat allowance word = record { word = word; tickets = []; allowance = allowance }

-- it has drawn this ticket, behind the others, and may draw one less
abbrev pub drawn_by : SeatState → ℕ → SeatState
drawn_by seat ticket = record seat { tickets = seat.tickets ++ ticket ∷ []; allowance = seat.allowance - 1 }

-- it may draw so many less
abbrev pub with_less : ℕ → SeatState → SeatState
with_less amount seat = record seat { allowance = seat.allowance - amount }

-- it has the tickets of the other too, behind its own, and may draw what the other may
abbrev pub with_other : SeatState → SeatState → SeatState
with_other seat other = record seat { tickets = seat.tickets ++ other.tickets; allowance = seat.allowance + other.allowance }

-- how often a number stands in a list
abbrev pub count_of : ℕ → List ℕ → ℕ
count_of number list = count_by (λ (one : ℕ). one == number) list

-- once where the number is below the bound, and else not at all
abbrev pub once_below : ℕ → ℕ → ℕ
once_below number bound = if nat_lt number bound then 1 else 0

-- the numbers below the bound, each once, and no other: in any order
abbrev pub AreAllBelow : ℕ → List ℕ → Type 0
AreAllBelow bound list = (number : ℕ) → count_of number list ≡ once_below number bound
