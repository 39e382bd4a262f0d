-- Which steps of a copying to a node that has come back the machine allows, with their answers and causes.
use Rattle.std.specs.Prelude.{◌≡◌, ℕ, Option, Some, None, IsSomeAnd, is_none, Bool, true, false, if◌then◌else◌, slice_index}
use Rattle.ckpt_types.specs.declared.answers.Answer.TheVariants as answers
use Rattle.ckpt_types.specs.declared.answers.Outcome.{Outcome}
use Rattle.ckpt_types.specs.declared.answers.Outcome.TheVariants.{Done, NoMemory}
use Rattle.ckpt_types.specs.declared.identities.ActorName.TheVariants.{Node}
use Rattle.ckpt_types.specs.declared.identities.CallId.{CallId}
use Rattle.ckpt_types.specs.declared.update.Update.TheVariants as updates
use Rattle.node_msgs.specs.declared.steps.StepReply.{StepReply}
use Rattle.node_msgs.specs.declared.steps.StepReply.TheVariants as words
use Rattle.cluster_record.specs.declared.entries.Entry.{Entry}
use Rattle.cluster_record.specs.DueCopy.{lacks_replica, next_to_copy, node_of}
use Rattle.cluster_record.specs.Joining.{completed}
use Rattle.cluster_record.specs.RecordState.{RecordState, entry_of, is_up, swept}
use Rattle.cluster_record.specs.Placement.{is_all, is_collocated}
use Rattle.ckpt_machine.specs.ActiveGuards.{ActiveHeld}
use Rattle.ckpt_machine.specs.Due.{Told}
use Rattle.ckpt_machine.specs.Complete.{complete_replicas}
use Rattle.ckpt_machine.specs.GuardTerms.{OnEach, OnReplica}
use Rattle.ckpt_machine.specs.Machine.{Machine, ReplicaState, Snapshot, Staged, CallState}
use Rattle.ckpt_machine.specs.After.{staged_moment}

-- the node that copies
abbrev pub copies_to : CallState → ℕ
copies_to s = node_of s.call.actor

-- it lacks no replica of a checkpoint that is made and not collocated
abbrev pub lacks_none : RecordState → ℕ → Bool
lacks_none R r = is_none (next_to_copy r R.entries)

-- a copying that has done so is answered OK where its node lacks no other; else it goes on
abbrev pub unless_lacking : RecordState → ℕ → Option Outcome
unless_lacking R r = if lacks_none R r then Some (Done answers.Nothing) else None

-- the node of the call, which is up, lacks a replica of this checkpoint
pub record IsLacking (m : Machine) (s : CallState) (k r : ℕ) : Type 0 where
  pub own : s.call.actor ≡ Node r
  pub up : is_up r m.cluster ≡ true
  pub lacks : IsSomeAnd (entry_of k m.cluster.entries) (λ e. lacks_replica r e ≡ true)

-- it reserves for the checkpoint, or is refused the memory
abbrev pub CopyReserveRow : Machine → CallState → ℕ → ℕ → StepReply → Option Outcome → Type 0
CopyReserveRow m s k r words.Ok end = IsLacking m s k r × (end ≡ None)
CopyReserveRow m s k r words.Memory end = IsLacking m s k r × (end ≡ Some NoMemory)
CopyReserveRow m s k r reply end = ⊥

-- pulled: the active, on which no marks stand, of a checkpoint that is not collocated
pub record CopyPullOk (t : Told) (r : ℕ) (e : Entry) (x : ReplicaState) : Type 0 where
  pub apart : is_collocated e.attributes ≡ false
  pub active : e.active ≡ Some r
  pub unmarked : x.marks ≡ None
  pub answer : t.end ≡ None

-- held: the marks of another call stand there, which is live; the copying is to try again
pub record CopyPullHeld (m : Machine) (s : CallState) (r : ℕ) (by : CallId) (t : Told) (e : Entry) (x : ReplicaState) : Type 0 where
  pub apart : is_collocated e.attributes ≡ false
  pub active : e.active ≡ Some r
  pub held : ActiveHeld m s.call by t x

-- what the active has is pulled, or the marks of another call hold that off
abbrev pub CopyPullRow : Machine → CallState → ℕ → ℕ → Told → StepReply → Type 0
CopyPullRow m s k r t words.Ok = OnReplica m k r (CopyPullOk t r)
CopyPullRow m s k r t (words.Held by) = OnReplica m k r (CopyPullHeld m s r by t)
CopyPullRow m s k r t reply = ⊥

-- the replica has the copying's own slot, of this moment, and the effects of what was pulled
pub record IsPulledUnder (call : CallId) (moment_is : Option Staged) (pulled : Snapshot) (x : ReplicaState) : Type 0 where
  pub slot : x.slot ≡ moment_is
  pub effects : x.effects ≡ pulled.effects

-- what was pulled can be what a node that joins has: where updates are on all replicas, each complete one has the call's slot, of one moment, and just the
-- effects of what was pulled; else it is of the present generation
abbrev pub IsCurrent : Machine → CallState → ℕ → Entry → Snapshot → Bool → Type 0
IsCurrent m s k e pulled true =
    OnEach (IsPulledUnder s.call (Some (record { owner = s.call; origin = s.call; update = updates.Nothing; moment = staged_moment m k })) pulled) (complete_replicas m k)
IsCurrent m s k e pulled false = pulled.generation ≡ e.generation

-- how a completion ends the call, behind which the record is R: where updates are on all replicas it goes on
abbrev pub completion_end : RecordState → ℕ → Bool → Option Outcome
completion_end R r true = None
completion_end R r false = unless_lacking R r

-- the node lacks the checkpoint, has reserved for it in its present incarnation, and what was pulled is current
pub record CompleteOk (m : Machine) (s : CallState) (k r : ℕ) (end : Option Outcome) (e : Entry) : Type 0 where
  pub lacks : lacks_replica r e ≡ true
  pub reserved : m.reserved k r ≡ Some (slice_index m.cluster.up r)
  pub pulled : IsSomeAnd s.snapshot (λ pulled. IsCurrent m s k e pulled (is_all e.attributes))
  pub answer : end ≡ completion_end (swept (completed k r m.cluster)) r (is_all e.attributes)

-- the node of the call comes to be complete for a checkpoint
abbrev pub CompleteRow : Machine → CallState → ℕ → ℕ → StepReply → Option Outcome → Type 0
CompleteRow m s k r words.Ok end =
    (s.call.actor ≡ Node r) × (is_up r m.cluster ≡ true) × IsSomeAnd (entry_of k m.cluster.entries) (CompleteOk m s k r end)
CompleteRow m s k r reply end = ⊥
