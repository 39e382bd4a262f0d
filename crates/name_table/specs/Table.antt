-- A table of names: a finite map from a name to the checkpoint that it is linked to, as the list of the
-- names in the order in which they were linked.
use Rattle.std.specs.Prelude.{◌≡◌, ◌≢◌, ℕ, List, [], ◌∷◌, ◌++◌, filter, find, Option, None, Bool, not, nat_eq}
use Rattle.std.specs.Option.{option_map}
use Rattle.std.specs.Cmp.Lexicographic.{pointwise}
use Rattle.ckpt_types.specs.Limits.{checkpoints_max}

-- a name, and the identity of the checkpoint that it is linked to
pub record NamedCkpt : Type 0 where
  pub name : List ℕ
  pub identity : ℕ

-- for how many names a table has places: one for each checkpoint
abbrev pub places : ℕ
places = checkpoints_max

-- the checkpoint has this name
abbrev pub is_called : List ℕ → NamedCkpt → Bool
is_called name ckpt = pointwise nat_eq name ckpt.name

-- the identity of the checkpoint of that name
abbrev pub found : List ℕ → List NamedCkpt → Option ℕ
found name table = option_map (λ ckpt. ckpt.identity) (find (is_called name) table)

-- the table with one more name, which is linked to that identity
abbrev pub linked : List ℕ → ℕ → List NamedCkpt → List NamedCkpt
linked name identity table = table ++ record { name = name; identity = identity } ∷ []

-- the table without that name
abbrev pub name_taken_away : List ℕ → List NamedCkpt → List NamedCkpt
name_taken_away name table = filter (λ ckpt. not (is_called name ckpt)) table

-- each name stands once
abbrev pub EachOnce : List NamedCkpt → Type 0
EachOnce [] = Unit {0}
EachOnce (ckpt ∷ table) = (found ckpt.name table ≡ None) × EachOnce table

-- every other name is linked as before
abbrev pub OthersStay : List ℕ → List NamedCkpt → List NamedCkpt → Type 0
OthersStay name before after = (other : List ℕ) → other ≢ name → found other after ≡ found other before
