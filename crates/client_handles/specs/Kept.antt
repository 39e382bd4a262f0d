-- Handles in the slots of a slab, by their numbers.
use Rattle.std.specs.Prelude.{◌≡◌, ℕ, zero, suc, ◌≤◌, ◌==◌, List, [], ◌∷◌, ◌++◌, Option, Some, None, if◌then◌else◌, slice_index_or}
use Rattle.slab.specs.Slab.{Slab, get}
use Rattle.client_handles.specs.declared.handle_view.HandleView.{HandleView}
use Rattle.client_handles.specs.declared.kept.Bound.{Bound}

-- what is in a slot, where it is the handle of that number
abbrev pub where_numbered : ℕ → Option HandleView → Option HandleView
where_numbered number None = None
where_numbered number (Some h) = if h.handle == number then Some h else None

-- the handle of that number
abbrev pub kept_numbered : ℕ → List (Option HandleView) → Option HandleView
kept_numbered number [] = None
kept_numbered number (None ∷ slots) = kept_numbered number slots
kept_numbered number (Some h ∷ slots) = if h.handle == number then Some h else kept_numbered number slots

-- the handle that was found, as a list of one, and nothing where none was
abbrev pub listed : Option HandleView → List HandleView
listed None = []
listed (Some h) = h ∷ []

-- the handles of the numbers from 1 up to a last one, in this order
abbrev pub handles_up_to : ℕ → List (Option HandleView) → List HandleView
handles_up_to zero slots = []
handles_up_to (suc number) slots = handles_up_to number slots ++ listed (kept_numbered (suc number) slots)

-- each handle has a number of its own, from 1 up to the last one
pub record AreNumbered (last : ℕ) (handles : Slab HandleView) : Type 0 where
  pub from_one : (key : ℕ) (h : HandleView) → get handles key ≡ Some h → 1 ≤ h.handle
  pub to_last : (key : ℕ) (h : HandleView) → get handles key ≡ Some h → h.handle ≤ last
  pub apart : (key other : ℕ) (h o : HandleView) → get handles key ≡ Some h → get handles other ≡ Some o → h.handle ≡ o.handle → key ≡ other

-- the number was given, and where a handle has it still, that handle lies under the key
pub record IsKey (last : ℕ) (handles : Slab HandleView) (set : Bound) : Type 0 where
  pub from_one : 1 ≤ set.number
  pub to_last : set.number ≤ last
  pub under : (key : ℕ) (h : HandleView) → get handles key ≡ Some h → h.handle ≡ set.number → key ≡ set.key

-- so it is at each place that was set
abbrev pub HaveKeys : ℕ → Slab HandleView → List (Option Bound) → Type 0
HaveKeys last handles places = (place : ℕ) (set : Bound) → slice_index_or places place None ≡ Some set → IsKey last handles set
