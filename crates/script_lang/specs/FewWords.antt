-- The words of a line in a fixed number of places.
use Rattle.std.specs.Prelude.{◌≡◌, ◌≤◌, ℕ, List, length, take}
use denote.Ref.{Bor}
use Rattle.script_lines.specs.Table.{texts}
use Rattle.script_lang.specs.Grammar.{words_of}

-- the first places, so many, have the words of the line
abbrev pub HasWords : List ℕ → List (Bor (List ℕ)) → ℕ → Type 0
HasWords line places count = (count ≤ length places) × (texts (take count places) ≡ words_of line)
