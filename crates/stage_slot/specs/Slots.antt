-- The slot of a replica: the one update that is staged on it, and the call that owns it.
use Rattle.std.specs.Prelude.{◌≡◌, ◌≢◌, ◌⊎◌, ℕ, Option, Some, None, Result, Ok, Err, ℤ}
use Rattle.ckpt_types.specs.declared.calls.Held.{Held}
use Rattle.ckpt_types.specs.declared.identities.CallId.{CallId}
use Rattle.ckpt_types.specs.declared.update.Update.{Update}
use Rattle.stage_slot.specs.declared.slot.Claimed.{Claimed}
use Rattle.stage_slot.specs.declared.slot.Claimed.TheVariants as claimed

-- a staged update: the call that owns it, the moment at which it is done, and how many updates the replica had when it was staged
pub record Slot : Type 0 where
  pub owner : CallId
  pub update : Update
  pub moment : ℤ
  pub count : ℕ

-- its owner, where one stands
abbrev pub owner_of : Option Slot → Option CallId
owner_of None = None
owner_of (Some slot) = Some slot.owner

-- the call owns the slot that stands
abbrev pub IsOwnedBy : CallId → Option Slot → Type 0
IsOwnedBy by None = ⊥
IsOwnedBy by (Some slot) = slot.owner ≡ by

-- an update is put into the slot of its owner, unless that of another call stands: an answer, and the slot behind it
abbrev pub IsStage : Slot → Option Slot → Result (Unit {0}) Held → Option Slot → Type 0
IsStage new None (Ok done) after = after ≡ Some new
IsStage new None (Err held) after = ⊥
IsStage new (Some slot) (Ok done) after = (slot.owner ≡ new.owner) × (after ≡ Some new)
IsStage new (Some slot) (Err held) after = (slot.owner ≢ new.owner) × (held.by ≡ slot.owner) × (after ≡ Some slot)

-- a call claims the slot of an owner: it gets the slot of this one, or its own, with all that is in it; a third call holds it off; where no slot stands, none comes
abbrev pub IsClaim : CallId → CallId → Option Slot → Result Claimed Held → Option Slot → Type 0
IsClaim by owner None (Ok claimed.Free) after = after ≡ None
IsClaim by owner None (Ok (claimed.Slot count)) after = ⊥
IsClaim by owner None (Err held) after = ⊥
IsClaim by owner (Some slot) (Ok claimed.Free) after = ⊥
IsClaim by owner (Some slot) (Ok (claimed.Slot count)) after = ((slot.owner ≡ by) ⊎ (slot.owner ≡ owner)) × (count ≡ slot.count) × (after ≡ Some (record slot { owner = by }))
IsClaim by owner (Some slot) (Err held) after = (slot.owner ≢ by) × (slot.owner ≢ owner) × (held.by ≡ slot.owner) × (after ≡ Some slot)
