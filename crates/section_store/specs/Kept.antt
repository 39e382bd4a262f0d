-- How sections are kept: each in a slot of its own, with its bytes in a region and its head in a table.
use Rattle.std.specs.Prelude.{◌≡◌, ◌+◌, ◌<◌, ◌≤◌, ◌^◌, ℕ, zero, suc, pos, List, [], All, map, length, take, drop, sum_by, slice_index_or, vec_capacity}
use Rattle.ckpt_types.specs.Sections.{Section}
use Rattle.ckpt_types.specs.declared.sections.SectionState.TheVariants.{Valid}
use Rattle.section_store.specs.KeptState.{KeptState}
use Rattle.section_store.specs.RegionState.{string_at}
use Rattle.section_store.specs.declared.kept.Head.{Head}
use Rattle.section_store.specs.declared.kept.Kept.TheInside.{Inside}

-- the head of a slot that is not there
abbrev pub no_head : Head
no_head = record { id = []; expiration = pos 0; state = Valid; last_update = pos 0 }

-- the head of a slot
abbrev pub head_at : ℕ → List Head → Head
head_at slot heads = slice_index_or heads slot no_head

-- the section of a head, with its bytes
abbrev pub section_with : Head → List ℕ → Section
section_with head bytes = record { id = head.id; bytes = bytes; expiration = head.expiration; state = head.state; last_update = head.last_update }

-- the section in a slot
abbrev pub section_at_slot : List Head → List (List ℕ) → ℕ → Section
section_at_slot heads strings slot = section_with (head_at slot heads) (string_at slot strings)

-- the sections in these slots
abbrev pub sections_at : List Head → List (List ℕ) → List ℕ → List Section
sections_at heads strings slots = map (section_at_slot heads strings) slots

-- the sections as contracts see them: of all slots in the order, those in front
abbrev pub kept_state : Inside → KeptState
kept_state k = record { sections = sections_at k.heads.items k.region.strings (take k.count k.order.items); size = k.region.size; places = k.region.spare + length k.region.strings }

-- what is added up over the numbers below one
abbrev pub sum_below : (ℕ → ℕ) → ℕ → ℕ
sum_below each zero = 0
sum_below each (suc n) = sum_below each n + each n

-- these are the slots below a number, each once: whatever is added up over them comes to as much as over those numbers
pub record AreSlots (count : ℕ) (slots : List ℕ) : Type 0 where
  pub sums : (each : ℕ → ℕ) → sum_by each slots ≡ sum_below each count

-- each slot has a head, a string, and one place in the order; those behind the sections are empty
pub record AreKept (heads : List Head) (strings : List (List ℕ)) (order : List ℕ) (count : ℕ) : Type 0 where
  pub paired : length heads ≡ length strings
  pub slots : AreSlots (length strings) order
  pub counted : count ≤ length order
  pub empty : All (λ slot. string_at slot strings ≡ []) (drop count order)

-- the sections are kept in slots, with not more bytes than there may be; there is room for all that was declared
pub record HasSlots (k : Inside) : Type 0 where
  pub kept : AreKept k.heads.items k.region.strings k.order.items k.count
  pub fits : sum_by length k.region.strings ≤ k.region.size
  pub heads_room : k.region.spare + length k.region.strings ≤ vec_capacity k.heads
  pub order_room : k.region.spare + length k.region.strings ≤ vec_capacity k.order
  pub small : k.region.spare + length k.region.strings < 2 ^ 32
  pub size_small : k.region.size < 2 ^ 64
