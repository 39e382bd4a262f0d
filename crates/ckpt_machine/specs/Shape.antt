-- What stands behind the replicas of a checkpoint: where its updates are on all of them, one equation for each node, with a witness.
use Rattle.std.specs.Option.{option_map}
use Rattle.std.specs.Prelude.{◌≡◌, ◌⊎◌, ℕ, ◌+◌, ◌<◌, List, [], ◌∷◌, ◌++◌, length, Option, Some, None, is_some, IsSome, IsSomeAnd, IfSome, Ok, Bool, true, false, ◌==◌, if◌then◌else◌, ℤ, slice_index}
use Rattle.ckpt_types.specs.declared.identities.CallId.{CallId}
use Rattle.ckpt_types.specs.declared.update.Update.{Update}
use Rattle.ckpt_types.specs.Sections.{Section}
use Rattle.ckpt_types.specs.Updates.{outcome}
use Rattle.ckpt_types.specs.Attributes.{is_malformed}
use Rattle.ckpt_types.specs.Limits.{nodes_max}
use Rattle.cluster_record.specs.declared.entries.Entry.{Entry}
use Rattle.cluster_record.specs.declared.calls.UpdatePhase.{UpdatePhase}
use Rattle.cluster_record.specs.declared.calls.UpdatePhase.TheVariants.{Staging, Committing, Claiming, Claimed, Withdrawing, Resolving}
use Rattle.cluster_record.specs.Calls.{same_call}
use Rattle.cluster_record.specs.DueActive.{ActiveState}
use Rattle.cluster_record.specs.DueUpdate.{UpdateState}
use Rattle.cluster_record.specs.declared.calls.MarksMade.{MarksMade}
use Rattle.weak_marks.specs.Marks.{Marked, elements_in}
use Rattle.cluster_record.specs.declared.calls.SyncKind.TheVariants.{ActiveSet}
use Rattle.cluster_record.specs.DueSync.{SyncState}
use Rattle.cluster_record.specs.Placement.{is_collocated}
use Rattle.cluster_record.specs.RecordState.{first_complete}
use Rattle.ckpt_machine.specs.Drivers as drivers
use Rattle.ckpt_machine.specs.Drivers.{update_in}
use Rattle.ckpt_types.specs.Asks.{update_of}
use Rattle.ckpt_machine.specs.Machine.{Machine, Effect, Applied, Staged, ReplicaState, CallState, who}
use Rattle.cluster_record.specs.Placement.{is_all}
use Rattle.ckpt_machine.specs.Propagation.{on_node, copied}
use Rattle.ckpt_machine.specs.Due.{driver_of}
use Rattle.ckpt_machine.specs.Dead.{IsDead}

-- the slots by node, each with its owner; the update that is staged; the contents under it, and those after it, which the replicas without a slot have
-- where it is done; and where updates go to the active alone, the marks that stand there
pub record Shape : Type 0 where
  pub owners : ℕ → Option CallId
  pub origin : CallId
  pub update : Update
  pub moment : ℤ
  pub sections : List Section
  pub effects : List Effect
  pub outcome : List Section
  pub done : Bool
  pub marks : Option Marked

-- ---- the replica of a node, by the owner of its slot

-- its slot: none, or the staged update with this owner
abbrev pub slot_by : Shape → Option CallId → Option Staged
slot_by sh None = None
slot_by sh (Some owner) = Some (record { owner = owner; origin = sh.origin; update = sh.update; moment = sh.moment })

-- its sections: those under the update, or where it has no slot and the update is done, those after it
abbrev pub sections_by : Shape → Option CallId → List Section
sections_by sh None = if sh.done then sh.outcome else sh.sections
sections_by sh (Some owner) = sh.sections

-- its effects likewise
abbrev pub effects_by : Shape → Option CallId → List Effect
effects_by sh None = if sh.done then sh.effects ++ Applied sh.origin sh.update sh.moment ∷ [] else sh.effects
effects_by sh (Some owner) = sh.effects

-- a replica is as the shape says by the owner of its slot, and no marks stand on it; its generation is its own
pub record IsShaped (sh : Shape) (owner : Option CallId) (x : ReplicaState) : Type 0 where
  pub slot : x.slot ≡ slot_by sh owner
  pub sections : x.sections ≡ sections_by sh owner
  pub effects : x.effects ≡ effects_by sh owner
  pub unmarked : x.marks ≡ None

-- the marks on a node, where the active has these
abbrev pub marks_at : Option ℕ → Option Marked → ℕ → Option Marked
marks_at None marks r = None
marks_at (Some active) marks r = if r == active then marks else None

-- a replica of a checkpoint whose updates are on the active alone: nothing is staged on it, and these marks stand; what it has is its own
pub record IsApart (marks : Option Marked) (x : ReplicaState) : Type 0 where
  pub free : x.slot ≡ None
  pub marks_are : x.marks ≡ marks

-- where updates are on all replicas, the replica of a node is as the shape says
abbrev pub IsShapedBy : Bool → Shape → Option ℕ → ℕ → ReplicaState → Type 0
IsShapedBy true sh active r x = IsShaped sh (sh.owners r) x
IsShapedBy false sh active r x = IsApart (marks_at active sh.marks r) x

-- the owner of a slot, where it has one, is this call
abbrev pub is_owner : CallId → Option CallId → Bool
is_owner call None = false
is_owner call (Some owner) = same_call owner call

-- the checkpoint is complete on this node
abbrev pub IsCompleteOn : Entry → ℕ → Type 0
IsCompleteOn e r = (slice_index e.complete r == 0) ≡ false

-- the nodes on which it is complete are up, with the incarnations that they had then
abbrev pub NodesAreUp : List ℕ → Entry → Type 0
NodesAreUp up e = (r : ℕ) → IsCompleteOn e r → slice_index up r ≡ slice_index e.complete r

-- ---- the call that owns a slot

-- all slots are of this call
abbrev pub AreOwn : Shape → CallId → Type 0
AreOwn sh call = (r : ℕ) (owner : CallId) → sh.owners r ≡ Some owner → owner ≡ call

-- it stages its own update, which no replica has
pub record IsStaging (sh : Shape) (s : CallState) (u : UpdateState) : Type 0 where
  pub origin : sh.origin ≡ s.call
  pub update : sh.update ≡ update_of s.op
  pub moment : sh.moment ≡ u.moment
  pub undone : sh.done ≡ false
  pub alone : AreOwn sh s.call

-- it commits its own update, and the replicas without a slot have it
pub record IsCommitting (sh : Shape) (s : CallState) : Type 0 where
  pub origin : sh.origin ≡ s.call
  pub update : sh.update ≡ update_of s.op
  pub is_done : sh.done ≡ true
  pub alone : AreOwn sh s.call

-- it has claimed slots of an update whose call is gone, and keeps how many updates the replicas have under it
pub record IsClaimed (m : Machine) (sh : Shape) (u : UpdateState) : Type 0 where
  pub origin : IsDead m sh.origin
  pub count : u.count ≡ length sh.effects

-- it has claimed them all, and the replicas without a slot have the update, or none has it
pub record IsSettling (m : Machine) (sh : Shape) (s : CallState) (done : Bool) : Type 0 where
  pub origin : IsDead m sh.origin
  pub done_is : sh.done ≡ done
  pub alone : AreOwn sh s.call

-- it does what its phase says; one that is to claim owns nothing yet
abbrev pub PhaseFits : Machine → Shape → CallState → UpdateState → UpdatePhase → Type 0
PhaseFits m sh s u Staging = IsStaging sh s u
PhaseFits m sh s u Committing = IsCommitting sh s
PhaseFits m sh s u Claiming = ⊥
PhaseFits m sh s u Claimed = IsClaimed m sh u
PhaseFits m sh s u Withdrawing = IsSettling m sh s false
PhaseFits m sh s u Resolving = IsSettling m sh s true

-- the call is in hand, and does an update of this checkpoint
pub record IsOwner (m : Machine) (k : ℕ) (sh : Shape) (call : CallId) : Type 0 where
  pub state : CallState
  pub in_hand : m.in_hand (who state) ≡ Some state
  pub call_is : state.call ≡ call
  pub driver : UpdateState
  pub driver_is : update_in (driver_of state) ≡ Some driver
  pub ckpt : driver.ckpt ≡ k
  pub phase : PhaseFits m sh state driver driver.phase

-- the call is dead, and so is the one whose update is staged
abbrev pub IsLeft : Machine → Shape → CallId → Type 0
IsLeft m sh call = IsDead m call × IsDead m sh.origin

-- the call of these marks is in hand, a weak write of this checkpoint, which has made them, and has as many of its elements left
pub record IsMarker (m : Machine) (k : ℕ) (marks : Marked) : Type 0 where
  pub state : CallState
  pub in_hand : m.in_hand (who state) ≡ Some state
  pub call_is : state.call ≡ marks.call
  pub driver : ActiveState
  pub driver_is : driver_of state ≡ drivers.Active driver
  pub ckpt : driver.ckpt ≡ k
  pub made : MarksMade
  pub made_is : driver.marks ≡ Some made
  pub update : marks.update ≡ update_of state.op
  pub left : marks.done + made.left ≡ length (elements_in marks.update)

-- ---- the active, and a hold

-- the active of a checkpoint with these complete nodes: of a collocated one any of them, or none; where updates are on all replicas, the lowest; else
-- any of them
abbrev pub IsActiveBy : Bool → Bool → List ℕ → Option ℕ → Type 0
IsActiveBy true all complete active = IfSome active (λ r. (slice_index complete r == 0) ≡ false)
IsActiveBy false true complete active = active ≡ first_complete 0 complete
IsActiveBy false false complete active = IsSomeAnd active (λ r. (slice_index complete r == 0) ≡ false)

-- the call is in hand, a setting of an active of this checkpoint, and has in its hand what the replica of the active has, where there is one still
pub record IsHolder (m : Machine) (k : ℕ) (active : Option ℕ) (call : CallId) : Type 0 where
  pub state : CallState
  pub in_hand : m.in_hand (who state) ≡ Some state
  pub call_is : state.call ≡ call
  pub driver : SyncState
  pub driver_is : driver_of state ≡ drivers.Sync driver
  pub local : ℕ
  pub kind : driver.kind ≡ ActiveSet local
  pub ckpt : driver.ckpt ≡ k
  pub some : is_some state.snapshot ≡ true
  pub copies : IsSome active → state.snapshot ≡ option_map copied (on_node (m.replicas k) active)

-- a checkpoint that a call holds is collocated, no marks stand on its active, and the call has a copy of it in its hand
pub record IsOnHold (m : Machine) (k : ℕ) (sh : Shape) (e : Entry) (call : CallId) : Type 0 where
  pub collocated : is_collocated e.attributes ≡ true
  pub unmarked : sh.marks ≡ None
  pub holder : IsHolder m k e.active call

-- ---- the whole

-- a checkpoint that is made has its replicas on its complete nodes, which are up, and of which one is the active, or none of a collocated one; the slots
-- are on the lowest of them, first those of a call in hand, and then those of dead ones; the marks on the active are of a call in hand, and so is the
-- hold on the checkpoint
pub record IsSpread (m : Machine) (k : ℕ) (sh : Shape) (e : Entry) : Type 0 where
  pub well_formed : is_malformed e.attributes ≡ false
  pub nodes : length e.complete ≡ nodes_max
  pub some : IsSome (first_complete 0 e.complete)
  pub up : NodesAreUp m.cluster.up e
  pub active : IsActiveBy (is_collocated e.attributes) (is_all e.attributes) e.complete e.active
  pub replicas : (r : ℕ) → IsCompleteOn e r → IsSomeAnd (m.replicas k r) (IsShapedBy (is_all e.attributes) sh e.active r)
  -- what is staged has this outcome
  pub fits : (r : ℕ) (call : CallId) → sh.owners r ≡ Some call → outcome e.attributes sh.update sh.moment sh.sections ≡ Ok sh.outcome
  pub all : (r : ℕ) (call : CallId) → sh.owners r ≡ Some call → is_all e.attributes ≡ true
  pub complete : (r : ℕ) (call : CallId) → sh.owners r ≡ Some call → IsCompleteOn e r
  pub lowest : (q r : ℕ) (call : CallId) → q < r → IsCompleteOn e q → sh.owners r ≡ Some call → IsSome (sh.owners q)
  -- below a slot of a call in hand all are its own
  pub first : (q r : ℕ) (call : CallId) → q < r → IsCompleteOn e q → sh.owners r ≡ Some call → IsOwner m k sh call → sh.owners q ≡ Some call
  pub owned : (r : ℕ) (call : CallId) → sh.owners r ≡ Some call → IsOwner m k sh call ⊎ IsLeft m sh call
  pub led : (marks : Marked) → sh.marks ≡ Some marks → IsSome e.active
  pub marked : (marks : Marked) → sh.marks ≡ Some marks → IsMarker m k marks
  pub held : (call : CallId) → e.hold ≡ Some call → IsOnHold m k sh e call
