-- What holds of the slots of a checkpoint whose updates are on all replicas, whichever nodes fail: six facts, in the words of its replicas and calls.
use Rattle.std.specs.Prelude.{◌≡◌, ◌⊎◌, ℕ, ◌<◌, [], ◌∷◌, ◌++◌, List, length, Some, None, IsSome, Ok, true, false, slice_index}
use Rattle.ckpt_types.specs.declared.identities.CallId.{CallId}
use Rattle.ckpt_types.specs.declared.identities.Who.{Who}
use Rattle.ckpt_types.specs.Asks.{update_of}
use Rattle.ckpt_types.specs.Sections.{Section}
use Rattle.ckpt_types.specs.Updates.{outcome}
use Rattle.cluster_record.specs.declared.calls.UpdatePhase.TheVariants.{Staging, Committing, Claiming, Claimed, Withdrawing, Resolving}
use Rattle.cluster_record.specs.declared.entries.Entry.{Entry}
use Rattle.cluster_record.specs.DueUpdate.{UpdateState}
use Rattle.cluster_record.specs.Placement.{is_all}
use Rattle.cluster_record.specs.RecordState.{entry_of, is_live}
use Rattle.cluster_record.specs.StepDone.{has}
use Rattle.ckpt_machine.specs.AllOrNone.{AreEqual, AreOfOne}
use Rattle.ckpt_machine.specs.Dead.{IsDead}
use Rattle.ckpt_machine.specs.Drivers.{update_in}
use Rattle.ckpt_machine.specs.After.{effect_of}
use Rattle.ckpt_machine.specs.Due.{driver_of}
use Rattle.ckpt_machine.specs.GuardTerms.{owns_slot}
use Rattle.ckpt_machine.specs.Invariant.{Invariant}
use Rattle.ckpt_machine.specs.Machine.{Machine, Staged, ReplicaState, CallState}
use Rattle.ckpt_machine.specs.Owned.{HasUpdate}
use Rattle.ckpt_machine.specs.Shape.{IsCompleteOn}

-- ---- the words

-- a complete node of the checkpoint has this replica
pub record Has (m : Machine) (k : ℕ) (e : Entry) (r : ℕ) (x : ReplicaState) : Type 0 where
  pub complete : IsCompleteOn e r
  pub there : m.replicas k r ≡ Some x

-- a complete node has this replica, with this slot
pub record HasSlot (m : Machine) (k : ℕ) (e : Entry) (r : ℕ) (x : ReplicaState) (slot : Staged) : Type 0 where
  pub has : Has m k e r x
  pub slot_is : x.slot ≡ Some slot

-- and this call owns it
pub record OwnsAt (m : Machine) (k : ℕ) (e : Entry) (call : CallId) (r : ℕ) (x : ReplicaState) (slot : Staged) : Type 0 where
  pub at : HasSlot m k e r x slot
  pub owner : slot.owner ≡ call

-- a complete node has this replica, and the call owns no slot there
pub record LacksAt (m : Machine) (k : ℕ) (e : Entry) (call : CallId) (r : ℕ) (x : ReplicaState) : Type 0 where
  pub has : Has m k e r x
  pub lacks : owns_slot call x.slot ≡ false

-- the call is in hand, and does an update of this checkpoint
pub record IsAt (m : Machine) (k : ℕ) (s : CallState) (u : UpdateState) : Type 0 where
  pub name : Who
  pub in_hand : m.in_hand name ≡ Some s
  pub driver : update_in (driver_of s) ≡ Some u
  pub ckpt : u.ckpt ≡ k

-- ---- the facts

-- in node order the complete replicas are some with a slot, followed by some without
abbrev pub SlotsComeFirst : Machine → ℕ → Entry → Type 0
SlotsComeFirst m k e = (q r : ℕ) (x y : ReplicaState) → q < r → Has m k e q x → Has m k e r y → IsSome y.slot → IsSome x.slot

-- all or none, and each slot's update has an outcome on its replica
pub record AreWhole (m : Machine) (k : ℕ) (e : Entry) : Type 0 where
  pub all_or_none : AreEqual m k ⊎ AreOfOne m k e.attributes
  pub outcomes : (r : ℕ) (x : ReplicaState) (slot : Staged) → HasSlot m k e r x slot
      → (sections : List Section) × (outcome e.attributes slot.update slot.moment x.sections ≡ Ok sections)

-- a live call's slots on complete nodes are the set that it keeps, cut to the complete nodes; while it owns one, the moment that it keeps in staging is
-- that of its slots, and the count that it keeps once it has claimed that of the replicas with them; an owner that it keeps is not live; at most one
-- live call owns slots, and where one does they are those of the lowest complete nodes
pub record OwnItsSlots (m : Machine) (k : ℕ) (e : Entry) : Type 0 where
  pub own : (s : CallState) (u : UpdateState) (r : ℕ) (x : ReplicaState) → IsAt m k s u → Has m k e r x
      → owns_slot s.call x.slot ≡ has (slice_index e.complete r) (slice_index u.owned r)
  pub moment : (s : CallState) (u : UpdateState) (r : ℕ) (x : ReplicaState) (slot : Staged) → IsAt m k s u → u.phase ≡ Staging
      → OwnsAt m k e s.call r x slot → slot.moment ≡ u.moment
  pub count : (s : CallState) (u : UpdateState) (r : ℕ) (x : ReplicaState) (slot : Staged) → IsAt m k s u → u.phase ≡ Claimed
      → OwnsAt m k e s.call r x slot → length x.effects ≡ u.count
  pub kept : (s : CallState) (u : UpdateState) → IsAt m k s u → (u.phase ≡ Claiming) ⊎ (u.phase ≡ Claimed) → is_live m.cluster u.owner ≡ false
  pub one : (c d : CallId) (q r : ℕ) (x y : ReplicaState) (slot other : Staged) → is_live m.cluster c ≡ true → is_live m.cluster d ≡ true
      → OwnsAt m k e c q x slot → OwnsAt m k e d r y other → c ≡ d
  pub lowest : (call : CallId) (q r : ℕ) (x y : ReplicaState) (slot : Staged) → is_live m.cluster call ≡ true → q < r → Has m k e q x
      → OwnsAt m k e call r y slot → owns_slot call x.slot ≡ true

-- where the origin is live it owns all slots; and so does a live call that withdraws or resolves, and owns one
pub record OwnAllSlots (m : Machine) (k : ℕ) (e : Entry) : Type 0 where
  pub origin : (q r : ℕ) (x y : ReplicaState) (slot other : Staged) → HasSlot m k e q x slot → is_live m.cluster slot.origin ≡ true
      → HasSlot m k e r y other → other.owner ≡ slot.origin
  pub settles : (s : CallState) (u : UpdateState) (q r : ℕ) (x y : ReplicaState) (slot other : Staged) → IsAt m k s u
      → (u.phase ≡ Withdrawing) ⊎ (u.phase ≡ Resolving) → OwnsAt m k e s.call q x slot → HasSlot m k e r y other → other.owner ≡ s.call

-- where a live call commits its own update, or resolves and owns a slot, each complete replica without a slot of it has the update that it commits; where
-- it stages or withdraws, and owns a slot, none of those has the update: they have what is under the slot
pub record HaveTheUpdate (m : Machine) (k : ℕ) (e : Entry) : Type 0 where
  pub committed : (s : CallState) (u : UpdateState) (r : ℕ) (x : ReplicaState) → IsAt m k s u → u.phase ≡ Committing
      → LacksAt m k e s.call r x → HasUpdate s.call (update_of s.op) x.effects
  pub resolved : (s : CallState) (u : UpdateState) (q r : ℕ) (x y : ReplicaState) (slot : Staged) → IsAt m k s u → u.phase ≡ Resolving
      → OwnsAt m k e s.call q x slot → LacksAt m k e s.call r y → y.effects ≡ x.effects ++ effect_of slot ∷ []
  pub undone : (s : CallState) (u : UpdateState) (q r : ℕ) (x y : ReplicaState) (slot : Staged) → IsAt m k s u
      → (u.phase ≡ Staging) ⊎ (u.phase ≡ Withdrawing) → OwnsAt m k e s.call q x slot → LacksAt m k e s.call r y → y.effects ≡ x.effects

-- the call is an update of this checkpoint, in hand
abbrev pub IsAtIt : Machine → ℕ → CallId → Type 0
IsAtIt m k call = (s : CallState) × (u : UpdateState) × IsAt m k s u × (s.call ≡ call)

-- a call that has ended otherwise than by being abandoned owns no slot: who owns one is in hand, or was begun and is gone with its client
abbrev pub OwnersAreLeft : Machine → ℕ → Entry → Type 0
OwnersAreLeft m k e = (r : ℕ) (x : ReplicaState) (slot : Staged) → HasSlot m k e r x slot → IsAtIt m k slot.owner ⊎ IsDead m slot.owner

-- all six
pub record SixFacts (m : Machine) (k : ℕ) (e : Entry) : Type 0 where
  pub slots_come_first : SlotsComeFirst m k e
  pub all_or_none : AreWhole m k e
  pub own_slots : OwnItsSlots m k e
  pub all_slots : OwnAllSlots m k e
  pub have_update : HaveTheUpdate m k e
  pub owners : OwnersAreLeft m k e

-- of every checkpoint that is made, whose updates are on all replicas
abbrev pub HasSixFacts : Machine → Type 0
HasSixFacts m = (k : ℕ) (e : Entry) → entry_of k m.cluster.entries ≡ Some e → e.making ≡ None → is_all e.attributes ≡ true → SixFacts m k e

-- wherever the invariant holds
abbrev pub GivesSixFacts : Type 0
GivesSixFacts = (m : Machine) → Invariant m → HasSixFacts m
