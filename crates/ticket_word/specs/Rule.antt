-- The rule of a word from which tickets are drawn, over what its seats know, and the three kinds of step.
use Rattle.std.specs.Prelude.{◌≡◌, ◌⊎◌, ℕ, ◌+◌, ◌-◌, ◌^◌, ◌<◌, ◌≤◌, List, [], ◌∷◌, ◌++◌, length, sum_by, All}
use mathlib.Core.Option.{some}
use lib.ListN.{get_elem?}
use Rattle.atomic_table.specs.Table.{Me, Step}
use Rattle.ticket_word.specs.Seats.{count_of, once_below}
use Rattle.ticket_word.specs.declared.rule.View.{View}

-- what the first seat knows: it has no ticket, and may draw all
abbrev pub first_view : ℕ → View
first_view total = record { tickets = []; allowance = total; total = total }

-- what is left of a seat that another has taken in
abbrev pub spent_view : View
spent_view = record { tickets = []; allowance = 0; total = 0 }

-- what a seat knows that has drawn this ticket
abbrev pub drawn_view : View → ℕ → View
drawn_view v ticket = record v { tickets = v.tickets ++ ticket ∷ []; allowance = v.allowance - 1 }

-- what a seat knows from which so much is cut off
abbrev pub left_view : ℕ → View → View
left_view amount v = record v { allowance = v.allowance - amount }

-- what the new seat knows to which it goes
abbrev pub new_view : ℕ → View → View
new_view amount v = record { tickets = []; allowance = amount; total = v.total }

-- what a seat knows that has taken in another
abbrev pub joined_view : View → View → View
joined_view v other = record v { tickets = v.tickets ++ other.tickets; allowance = v.allowance + other.allowance }

-- the rule, between any two steps: the word is the number of tickets drawn, and with all that may still be drawn it makes the total, so it never wraps; the seats have as many tickets, each number below the word once, and no other; and each seat that is not spent knows the total
pub record CountsTickets (total : ℕ) (words : List ℕ) (views : List View) : Type 0 where
  pub drawn : ℕ
  pub word : words ≡ drawn ∷ []
  pub few : total ≤ 2 ^ 63
  pub whole : drawn + sum_by (λ (v : View). v.allowance) views ≡ total
  pub count : sum_by (λ (v : View). length v.tickets) views ≡ drawn
  pub each : (number : ℕ) → sum_by (λ (v : View). count_of number v.tickets) views ≡ once_below number drawn
  pub named : (place : ℕ) (v : View) → get_elem? views place ≡ some v → (v.total ≡ total) ⊎ (v ≡ spent_view)

-- what a draw tells: the word as it was is the ticket, which is above all that the seat has, and below the total
pub record IsDraw (step : Step ℕ) (before : Me ℕ View) (found : ℕ) (after : Me ℕ View) : Type 0 where
  pub view : after.0 ≡ drawn_view before.0 found
  pub slots : after.1 ≡ before.1
  pub above : All (λ ticket. ticket < found) before.0.tickets
  pub below : found < before.0.total
  pub small : found < 2 ^ 63
