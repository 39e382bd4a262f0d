-- A trail as callers see it.
use Rattle.std.specs.Prelude.{ℕ, ◌<◌, List, [], ◌∷◌, map, All}
use Rattle.shared_nodes.specs.declared.trail.Noted.{Noted}

-- its labels with their tickets, and for how many more there is room
pub record KeptTrail : Type 0 where
  pub notes : List Noted
  pub spare : ℕ

-- the tickets, in the order of the labels
abbrev pub tickets_of : List Noted → List ℕ
tickets_of notes = map (λ (note : Noted). note.ticket) notes

-- each ticket is below all that stand behind it
abbrev pub AreRising : List ℕ → Type 0
AreRising [] = Unit {0}
AreRising (ticket ∷ behind) = All (λ other. ticket < other) behind × AreRising behind
