-- What the record and the client's tables decide alone: which looks the machine allows, each with its cause.
use Rattle.std.specs.Prelude.{◌≡◌, ◌⊎◌, ℕ, ◌≤◌, List, length, Option, Some, None, IsSome, IsSomeAnd, Bool, true, false, ◌==◌}
use Rattle.moment_rules.specs.Times.{is_reached}
use Rattle.ckpt_types.specs.declared.ais_error.AisError.{AisError}
use Rattle.ckpt_types.specs.declared.ais_error.AisError.TheVariants as errors
use Rattle.ckpt_types.specs.declared.answers.Answer.{Answer}
use Rattle.ckpt_types.specs.declared.answers.Answer.TheVariants as answers
use Rattle.ckpt_types.specs.declared.answers.Cause.{Cause}
use Rattle.ckpt_types.specs.declared.answers.Cause.TheVariants.{Plain, Holder, Generations, Deadline, Count}
use Rattle.ckpt_types.specs.declared.answers.Outcome.{Outcome}
use Rattle.ckpt_types.specs.declared.answers.Outcome.TheVariants.{Done, Refused}
use Rattle.ckpt_types.specs.declared.attributes.CreationAttributes.{CreationAttributes}
use Rattle.ckpt_types.specs.declared.identities.CallId.{CallId}
use Rattle.ckpt_types.specs.declared.update.Update.{Update}
use Rattle.ckpt_types.specs.Limits.{clients_max, checkpoints_max, handles_max, iterations_max}
use Rattle.node_msgs.specs.declared.details.Details.{Details}
use Rattle.node_msgs.specs.declared.steps.StepReply.{StepReply}
use Rattle.node_msgs.specs.declared.steps.StepReply.TheVariants as words
use Rattle.cluster_record.specs.declared.entries.Entry.{Entry}
use Rattle.cluster_record.specs.Calls.{same_call}
use Rattle.cluster_record.specs.RecordState.{entry_of, named, is_live}
use Rattle.cluster_record.specs.DueOpen.{accepts}
use Rattle.ckpt_types.specs.Asks.{Ask, asked}
use Rattle.ckpt_types.specs.Asks as asks
use Rattle.node_core.specs.Serving.{update_answer}
use Rattle.cluster_record.specs.Placement.{is_all}
use Rattle.ckpt_machine.specs.Complete.{complete_replicas}
use Rattle.ckpt_machine.specs.Machine.{Machine, ReplicaState, Snapshot, CallState}
use Rattle.ckpt_machine.specs.Owned.{HasUpdate}
use Rattle.ckpt_machine.specs.Due.{rooms_of, look_details}
use Rattle.ckpt_machine.specs.GuardTerms.{IsInTime, OnEach, deadline_of, owns_slot}
use Rattle.ckpt_machine.specs.ActiveGuards.{all_served, HasMarkedIn}
use Rattle.ckpt_machine.specs.CopyGuards.{copies_to, lacks_none}

-- ---- what the record and the client's tables decide

-- a checkpoint has the name, or one is asked for
abbrev pub MayExist : Option Entry → Option CreationAttributes → Type 0
MayExist None a = IsSome a
MayExist (Some e) a = Unit {0}

-- the checkpoint of the name is made and has the attributes asked for; where none has the name, one is asked for
abbrev pub IsAccepted : Option Entry → Option CreationAttributes → Type 0
IsAccepted None a = IsSome a
IsAccepted (Some e) a = (e.making ≡ None) × (accepts a e ≡ true)

-- the client has as many handles as it may have
pub record HasNoPlace (m : Machine) (s : CallState) (name : List ℕ) (a : Option CreationAttributes) (n : ℕ) : Type 0 where
  pub accepted : IsAccepted (named name m.cluster.entries) a
  pub full : (rooms_of m s).handles ≡ false
  pub limit : n ≡ handles_max

-- a checkpoint is asked for where as many are there as may be
pub record IsFull (m : Machine) (s : CallState) (name : List ℕ) (a : Option CreationAttributes) (n : ℕ) : Type 0 where
  pub free : named name m.cluster.entries ≡ None
  pub asked : IsSome a
  pub room : (rooms_of m s).handles ≡ true
  pub full : checkpoints_max ≤ length m.cluster.entries
  pub limit : n ≡ checkpoints_max

-- the refusals of an open that the record and the tables decide, each where none before it applies: NOT_EXIST, TIMEOUT, EXIST, NO_RESOURCES; between
-- TIMEOUT and EXIST comes TRY_AGAIN, which a step of the record answers
abbrev pub OpenLook : Machine → CallState → List ℕ → Option CreationAttributes → AisError → Cause → Type 0
OpenLook m s name a errors.NotExist Plain = (named name m.cluster.entries ≡ None) × (a ≡ None)
OpenLook m s name a errors.Timeout (Deadline deadline moment) =
    MayExist (named name m.cluster.entries) a × (deadline_of s ≡ Some deadline) × (moment ≡ m.cluster.moment) × (is_reached deadline moment ≡ true)
OpenLook m s name a errors.Exist Plain = IsInTime m s × IsSomeAnd (named name m.cluster.entries) (λ e. (e.making ≡ None) × (accepts a e ≡ false))
OpenLook m s name a errors.NoResources (Count n) = IsInTime m s × (HasNoPlace m s name a n ⊎ IsFull m s name a n)
OpenLook m s name a error cause = ⊥

-- as many clients are live as may be
abbrev pub EnterLook : Machine → AisError → Cause → Type 0
EnterLook m errors.NoResources (Count n) = (clients_max ≤ length m.cluster.clients) × (n ≡ clients_max)
EnterLook m error cause = ⊥

-- the handle's entry is gone
abbrev pub GoneLook : Machine → Option ℕ → AisError → Cause → Type 0
GoneLook m (Some k) errors.NotExist Plain = entry_of k m.cluster.entries ≡ None
GoneLook m k error cause = ⊥

-- the checkpoint is gone, or has no active
abbrev pub HasNoActive : Option Entry → Type 0
HasNoActive None = Unit {0}
HasNoActive (Some e) = e.active ≡ None

-- NOT_EXIST of a call to the active
abbrev pub NoActiveLook : Machine → Option ℕ → AisError → Cause → Type 0
NoActiveLook m (Some k) errors.NotExist Plain = HasNoActive (entry_of k m.cluster.entries)
NoActiveLook m k error cause = ⊥

-- there is no active, or the client has as many iterations as it may have
abbrev pub IterLook : Machine → CallState → AisError → Cause → Type 0
IterLook m s errors.NoResources (Count n) =
    IsSomeAnd s.kept.ckpt (λ k. IsSomeAnd (entry_of k m.cluster.entries) (λ e. IsSome e.active)) × ((rooms_of m s).iterations ≡ false) × (n ≡ iterations_max)
IterLook m s error cause = NoActiveLook m s.kept.ckpt error cause

-- no checkpoint has the name, or another live call is making it
abbrev pub UnlinkLook : Machine → CallState → List ℕ → AisError → Cause → Type 0
UnlinkLook m s name errors.NotExist Plain = named name m.cluster.entries ≡ None
UnlinkLook m s name errors.TryAgain (Holder by) =
    IsSomeAnd (named name m.cluster.entries) (λ e. e.making ≡ Some by) × (is_live m.cluster by ≡ true) × (same_call by s.call ≡ false)
UnlinkLook m s name error cause = ⊥

-- the handle's entry is gone, or unlinked
abbrev pub RetainLook : Machine → Option ℕ → AisError → Cause → Type 0
RetainLook m (Some k) errors.BadOperation Plain = IsSomeAnd (entry_of k m.cluster.entries) (λ e. e.name ≡ None)
RetainLook m k error cause = GoneLook m k error cause

-- the checkpoint that the call keeps is there, and has an active
abbrev pub OnLed : Machine → Option ℕ → (Entry → Type 0) → Type 0
OnLed m None P = ⊥
OnLed m (Some k) P = IsSomeAnd (entry_of k m.cluster.entries) (λ e. IsSome e.active × P e)

-- there is no active; or the deadline is reached; or the generation is another than that of what was pulled
abbrev pub SyncLook : Machine → CallState → AisError → Cause → Type 0
SyncLook m s errors.Timeout (Deadline deadline moment) =
    OnLed m s.kept.ckpt (λ e. Unit {0}) × (deadline_of s ≡ Some deadline) × (moment ≡ m.cluster.moment) × (is_reached deadline moment ≡ true)
SyncLook m s errors.TryAgain (Generations old present) =
    OnLed m s.kept.ckpt (λ e. e.generation ≡ present) × IsInTime m s × IsSomeAnd s.snapshot (λ pulled. pulled.generation ≡ old) × ((old == present) ≡ false)
SyncLook m s error cause = NoActiveLook m s.kept.ckpt error cause

-- the checkpoint that the call keeps is held by another call, which is live
abbrev pub OnHeldBy : Machine → CallState → CallId → (Entry → Type 0) → Type 0
OnHeldBy m s by P =
    IsSomeAnd s.kept.ckpt (λ k. IsSomeAnd (entry_of k m.cluster.entries) (λ e. (e.hold ≡ Some by) × P e)) × (is_live m.cluster by ≡ true)
    × (same_call by s.call ≡ false)

-- an update of the active alone: there is no active; or another call holds the checkpoint; or the generation is another than that of its own marks
abbrev pub ActiveLook : Machine → CallState → AisError → Cause → Type 0
ActiveLook m s errors.TryAgain (Holder by) = OnHeldBy m s by (λ e. IsSome e.active)
ActiveLook m s errors.TryAgain (Generations old present) =
    OnLed m s.kept.ckpt (λ e. (e.hold ≡ None) × (e.generation ≡ present)) × HasMarkedIn s old × ((old == present) ≡ false)
ActiveLook m s error cause = NoActiveLook m s.kept.ckpt error cause

-- an update on all replicas is refused where its checkpoint is gone
abbrev pub ChangeLook : Bool → Machine → CallState → AisError → Cause → Type 0
ChangeLook true m s error cause = GoneLook m s.kept.ckpt error cause
ChangeLook false m s error cause = ActiveLook m s error cause

-- the setting of an active: the checkpoint is gone; or another call holds it
abbrev pub SetLook : Machine → CallState → AisError → Cause → Type 0
SetLook m s errors.TryAgain (Holder by) = OnHeldBy m s by (λ e. Unit {0})
SetLook m s error cause = GoneLook m s.kept.ckpt error cause

-- a copying: the generation of the checkpoint that it is at, whose updates go to the active alone, is another than that of what it has pulled
abbrev pub CopyLook : Machine → CallState → AisError → Cause → Type 0
CopyLook m s errors.TryAgain (Generations old present) =
    OnLed m s.kept.ckpt (λ e. (is_all e.attributes ≡ false) × (e.generation ≡ present)) × IsSomeAnd s.snapshot (λ pulled. pulled.generation ≡ old)
    × ((old == present) ≡ false)
CopyLook m s error cause = ⊥

-- what the record alone refuses, by what is asked for
abbrev pub LookRefused : Machine → CallState → Ask → AisError → Cause → Type 0
LookRefused m s (asks.Enter r version callbacks) error cause = EnterLook m error cause
LookRefused m s (asks.Open place name flags timeout a) error cause = OpenLook m s name a error cause
LookRefused m s (asks.Change place update) error cause = ChangeLook s.kept.all m s error cause
LookRefused m s (asks.Read place elements) error cause = NoActiveLook m s.kept.ckpt error cause
LookRefused m s (asks.Status place) error cause = NoActiveLook m s.kept.ckpt error cause
LookRefused m s (asks.Iterate iteration place chosen time) error cause = IterLook m s error cause
LookRefused m s (asks.Next iteration) error cause = NoActiveLook m s.kept.ckpt error cause
LookRefused m s (asks.Unlink name) error cause = UnlinkLook m s name error cause
LookRefused m s (asks.Retain place duration) error cause = RetainLook m s.kept.ckpt error cause
LookRefused m s (asks.Synchronize place timeout) error cause = SyncLook m s error cause
LookRefused m s (asks.SetActive place) error cause = SetLook m s error cause
LookRefused m s asks.Copy error cause = CopyLook m s error cause
LookRefused m s ask error cause = ⊥

-- a synchronisation has served each complete node with so many updates, of the present generation
abbrev pub SyncDone : Machine → CallState → ℕ → Entry → Snapshot → Type 0
SyncDone m s count e pulled = (pulled.generation ≡ e.generation) × (length pulled.effects ≡ count) × (all_served s.steps 0 e.complete ≡ true)

-- an update on all replicas is done: no complete replica has a slot of the call, and each has the update
abbrev pub IsUpdated : Machine → CallId → Update → ℕ → Entry → Type 0
IsUpdated m call update k e =
    (is_all e.attributes ≡ true) × OnEach (λ y. (owns_slot call y.slot ≡ false) × HasUpdate call update y.effects) (complete_replicas m k)

-- a copying has nothing left to do: its node lacks no checkpoint, and no replica has a slot of the call
abbrev pub CopyDone : Machine → CallState → Type 0
CopyDone m s =
    (lacks_none m.cluster (copies_to s) ≡ true)
    × ((k r : ℕ) (x : ReplicaState) → m.replicas k r ≡ Some x → owns_slot s.call x.slot ≡ false)

-- nothing is left to do: a close of a checkpoint that is gone, a synchronisation, an update whose last slots went with their nodes, or a copying
abbrev pub LookDone : Machine → CallState → Ask → Answer → Type 0
LookDone m s (asks.Close place) answers.Nothing = IsSomeAnd s.kept.ckpt (λ k. entry_of k m.cluster.entries ≡ None)
LookDone m s (asks.Synchronize place timeout) (answers.Pulled count) = OnLed m s.kept.ckpt (λ e. IsSomeAnd s.snapshot (SyncDone m s count e)) × IsInTime m s
LookDone m s (asks.Change place update) answer =
    (answer ≡ update_answer update) × IsSomeAnd s.kept.ckpt (λ k. IsSomeAnd (entry_of k m.cluster.entries) (IsUpdated m s.call update k))
LookDone m s asks.Copy answers.Nothing = CopyDone m s
LookDone m s ask answer = ⊥

-- the record alone refuses the call, or has nothing left for it to do
abbrev pub LookRow : Machine → CallState → StepReply → Option Outcome → Type 0
LookRow m s words.Refused (Some (Refused error cause)) = LookRefused m s (asked s.op) error cause
LookRow m s words.Done (Some (Done answer)) = LookDone m s (asked s.op) answer
LookRow m s reply end = ⊥

-- what is told beside it: of a creation the identifier that it has made
abbrev pub LookTold : CallState → Option Outcome → Details → Type 0
LookTold s (Some o) details = details ≡ look_details s o
LookTold s None details = ⊥
