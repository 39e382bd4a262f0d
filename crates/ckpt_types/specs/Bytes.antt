-- How a string of bytes is kept: a few at the front of bytes in place, or any in a list.
use Rattle.std.specs.Prelude.{◌≡◌, ◌≤◌, ⊤, ℕ, List, length, take}
use Rattle.ckpt_types.specs.declared.bytes.Text.{Text}
use Rattle.ckpt_types.specs.declared.bytes.Text.TheVariants.{Short, Long}

-- the string that is kept
abbrev pub bytes_in : Text → List ℕ
bytes_in (Short len front) = take len front
bytes_in (Long items) = items.items

-- a short one ends within the 30 bytes in place
abbrev pub IsWithin : Text → Type 0
IsWithin (Short len front) = (length front ≡ 30) × (len ≤ 30)
IsWithin (Long items) = ⊤
