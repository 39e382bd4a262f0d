-- Which steps of an update on all replicas the machine allows, with their answers and causes.
use Rattle.std.specs.Prelude.{◌≡◌, ◌≢◌, ◌⊎◌, ℕ, List, [], ◌∷◌, ◌++◌, length, Option, Some, None, IsSomeAnd, Err, IsOk, Bool, false, not, ◌&&◌, if◌then◌else◌}
use Rattle.ckpt_types.specs.declared.ais_error.AisError.TheVariants as errors
use Rattle.ckpt_types.specs.declared.answers.Cause.TheVariants.{Holder}
use Rattle.ckpt_types.specs.declared.answers.Outcome.{Outcome}
use Rattle.ckpt_types.specs.declared.answers.Outcome.TheVariants.{Done, Refused}
use Rattle.ckpt_types.specs.declared.identities.CallId.{CallId}
use Rattle.ckpt_types.specs.declared.update.Update.{Update}
use Rattle.ckpt_types.specs.Updates.{Refusal, outcome}
use Rattle.node_msgs.specs.declared.details.Details.{Details}
use Rattle.node_msgs.specs.declared.details.Details.TheVariants as beside
use Rattle.node_msgs.specs.declared.steps.StepReply.{StepReply}
use Rattle.node_msgs.specs.declared.steps.StepReply.TheVariants as words
use Rattle.cluster_record.specs.declared.entries.Entry.{Entry}
use Rattle.cluster_record.specs.Calls.{same_call}
use Rattle.cluster_record.specs.RecordState.{is_live}
use Rattle.ckpt_machine.specs.Complete.{complete_replicas}
use Rattle.ckpt_machine.specs.Driving.{refused_cause}
use Rattle.node_core.specs.Serving.{update_answer, told_id}
use Rattle.ckpt_machine.specs.Machine.{Machine, Staged, ReplicaState, CallState}
use Rattle.ckpt_machine.specs.After.{staged_moment, effect_of}
use Rattle.ckpt_machine.specs.GuardTerms.{IfSlot, OnAll, OnEach, owned_elsewhere, owns_slot}

-- ---- all-replicas updates

-- staged: the replica has no slot and the update an outcome, all complete replicas have equal effects, and each slot is of this very update
pub record StageOk (m : Machine) (call : CallId) (update : Update) (k : ℕ) (e : Entry) (x : ReplicaState) : Type 0 where
  pub free : x.slot ≡ None
  pub fits : IsOk (outcome e.attributes update (staged_moment m k) x.sections)
  pub same_effects : OnEach (λ y. y.effects ≡ x.effects) (complete_replicas m k)
  pub only_own : OnEach (λ y. IfSlot y.slot
      (λ slot. slot ≡ record { owner = call; origin = call; update = update; moment = staged_moment m k })) (complete_replicas m k)

-- refused: no complete replica has a slot of the call, and the outcome at the record's moment is the refusal
pub record StageRefused (m : Machine) (s : CallState) (update : Update) (k : ℕ) (end : Option Outcome) (e : Entry) (x : ReplicaState) : Type 0 where
  pub free : x.slot ≡ None
  pub none_own : OnEach (λ y. owns_slot s.call y.slot ≡ false) (complete_replicas m k)
  pub why : Refusal
  pub refused : outcome e.attributes update m.cluster.moment x.sections ≡ Err why
  -- the cause is the index for a write alone
  pub answer : end ≡ Some (Refused why.error (refused_cause s.op why.index))

-- held: another call owns the slot; where that call is live, this one is to try again, and else it goes on
pub record StageHeld (m : Machine) (call by : CallId) (end : Option Outcome) (x : ReplicaState) : Type 0 where
  pub owner : IsSomeAnd x.slot (λ slot. slot.owner ≡ by)
  pub another : same_call by call ≡ false
  pub answer : end ≡ (if is_live m.cluster by then Some (Refused errors.TryAgain (Holder by)) else None)

-- a stage is done, refused by the sections, or held off by another call
abbrev pub StageRow : Machine → CallState → Update → ℕ → ℕ → StepReply → Option Outcome → Type 0
StageRow m s update k r words.Ok end = OnAll m k r (StageOk m s.call update k) × (end ≡ None)
StageRow m s update k r words.Refused end = OnAll m k r (StageRefused m s update k end)
StageRow m s update k r (words.Held by) end = OnAll m k r (λ e x. StageHeld m s.call by end x)
StageRow m s update k r reply end = ⊥

-- claimed: the slot is of a call that is not live, or of this one
pub record ClaimOk (m : Machine) (call : CallId) (end : Option Outcome) (x : ReplicaState) : Type 0 where
  pub owner : IsSomeAnd x.slot (λ slot. (slot.owner ≡ call) ⊎ (is_live m.cluster slot.owner ≡ false))
  pub answer : end ≡ None

-- free: no slot stands, and the replica has so many updates
pub record ClaimFree (count : ℕ) (end : Option Outcome) (x : ReplicaState) : Type 0 where
  pub free : x.slot ≡ None
  pub count_is : count ≡ length x.effects
  pub answer : end ≡ None

-- a claim is done, finds no slot, or is held off by another call
abbrev pub ClaimRow : Machine → CallState → ℕ → ℕ → StepReply → Option Outcome → Type 0
ClaimRow m s k r words.Ok end = OnAll m k r (λ e x. ClaimOk m s.call end x)
ClaimRow m s k r (words.Free count) end = OnAll m k r (λ e x. ClaimFree count end x)
ClaimRow m s k r (words.Held by) end = OnAll m k r (λ e x. StageHeld m s.call by end x)
ClaimRow m s k r reply end = ⊥

-- withdrawn: the call owns the slot, whose update is of a call that is not live, and which no complete replica has
pub record WithdrawOk (m : Machine) (call : CallId) (k : ℕ) (end : Option Outcome) (x : ReplicaState) : Type 0 where
  pub slot : Staged
  pub staged : x.slot ≡ Some slot
  pub owner : slot.owner ≡ call
  pub origin : is_live m.cluster slot.origin ≡ false
  pub none_has : OnEach (λ y. y.effects ≢ x.effects ++ effect_of slot ∷ []) (complete_replicas m k)
  pub answer : end ≡ None

-- a withdrawal is done
abbrev pub WithdrawRow : Machine → CallState → ℕ → ℕ → StepReply → Option Outcome → Type 0
WithdrawRow m s k r words.Ok end = OnAll m k r (λ e x. WithdrawOk m s.call k end x)
WithdrawRow m s k r reply end = ⊥

-- the replica has the same slot still, or has committed it
abbrev pub HasSlotOrEffect : ReplicaState → Staged → ReplicaState → Option Staged → Type 0
HasSlotOrEffect x slot y (Some other) = (other.origin ≡ slot.origin) × (other.update ≡ slot.update) × (other.moment ≡ slot.moment) × (y.effects ≡ x.effects)
HasSlotOrEffect x slot y None = y.effects ≡ x.effects ++ effect_of slot ∷ []

-- a commit ends an update where this is the call's own, and no other complete replica has a slot of the call
abbrev pub ends_update : CallId → ℕ → Staged → List (ℕ × ReplicaState) → Bool
ends_update call r slot replicas = same_call slot.origin call && not (owned_elsewhere call r replicas)

-- committed: the call owns the slot, whose update is its own or of a call that is not live, and every complete replica has that update staged on equal
-- effects, or has it
pub record CommitOk (m : Machine) (call : CallId) (update : Update) (ends : Bool → Bool) (k r : ℕ) (end : Option Outcome) (details : Details) (x : ReplicaState) : Type 0 where
  pub slot : Staged
  pub staged : x.slot ≡ Some slot
  pub owner : slot.owner ≡ call
  pub origin : (slot.origin ≡ call) ⊎ (is_live m.cluster slot.origin ≡ false)
  pub others : OnEach (λ y. HasSlotOrEffect x slot y y.slot) (complete_replicas m k)
  -- an update is answered OK by the commit of its own after which no complete replica has a slot of the call, where its call ends with it; a creation
  -- tells its identifier then
  pub answer : end ≡ (if ends (ends_update call r slot (complete_replicas m k)) then Some (Done (update_answer update)) else None)
  pub told : details ≡ (if ends (ends_update call r slot (complete_replicas m k)) then told_id update slot.moment x.sections else beside.Nothing)

-- a commit is done
abbrev pub CommitRow : Machine → CallId → Update → (Bool → Bool) → ℕ → ℕ → StepReply → Option Outcome → Details → Type 0
CommitRow m call update ends k r words.Ok end details = OnAll m k r (λ e x. CommitOk m call update ends k r end details x)
CommitRow m call update ends k r reply end details = ⊥
