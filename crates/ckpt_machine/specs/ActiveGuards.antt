-- Which steps at a checkpoint's active the machine allows, with their answers and causes: updates, reads, synchronisations, the setting of an active,
-- status and iterations.
use Rattle.std.specs.List.{list_any}
use Rattle.std.specs.Prelude.{◌≡◌, ℕ, ◌+◌, List, [], ◌∷◌, length, Option, Some, None, IsSome, IsSomeAnd, Ok, Err, IsOk, Bool, true, false, ◌==◌, ◌&&◌, ◌||◌, if◌then◌else◌}
use Rattle.ckpt_types.specs.declared.ais_error.AisError.TheVariants as errors
use Rattle.ckpt_types.specs.declared.answers.Answer.TheVariants as answers
use Rattle.ckpt_types.specs.declared.answers.Cause.TheVariants.{Plain, Index, Holder}
use Rattle.ckpt_types.specs.declared.answers.Outcome.{Outcome}
use Rattle.ckpt_types.specs.declared.answers.Outcome.TheVariants.{Done, Refused}
use Rattle.ckpt_types.specs.declared.identities.CallId.{CallId}
use Rattle.ckpt_types.specs.declared.update.ReadElement.{ReadElement}
use Rattle.ckpt_types.specs.declared.update.Update.{Update}
use Rattle.ckpt_types.specs.Updates.{Refusal, outcome}
use Rattle.ckpt_types.specs.Reads.{read, status, NextGiven, given, description}
use Rattle.node_msgs.specs.declared.details.Details.{Details}
use Rattle.node_msgs.specs.declared.details.Details.TheVariants as beside
use Rattle.node_msgs.specs.declared.steps.Verb.{Verb}
use Rattle.node_msgs.specs.declared.steps.Verb.TheVariants as verbs
use Rattle.node_msgs.specs.declared.steps.StepReply.{StepReply}
use Rattle.node_msgs.specs.declared.steps.StepReply.TheVariants as words
use Rattle.cluster_record.specs.declared.entries.Entry.{Entry}
use Rattle.cluster_record.specs.Calls.{same_call}
use Rattle.cluster_record.specs.Placement.{is_collocated}
use Rattle.cluster_record.specs.RecordState.{entry_of, attributes_now, is_live}
use Rattle.ckpt_machine.specs.Driving.{refused_cause}
use Rattle.node_core.specs.Serving.{update_answer, told_id}
use Rattle.ckpt_machine.specs.Machine.{Machine, ReplicaState, Snapshot, CallState}
use Rattle.ckpt_machine.specs.Propagation.{is_behind}
use Rattle.ckpt_machine.specs.Listing.{is_active}
use Rattle.cluster_record.specs.Placement.{is_all}
use Rattle.weak_marks.specs.Marks.{Marked, is_left}
use Rattle.ckpt_machine.specs.Due.{Told, rooms_of, ids_asked, step_told}
use Rattle.cluster_record.specs.StepDone.{StepDone}
use Rattle.ckpt_machine.specs.GuardTerms.{IsInTime, OnActive, OnReplica}

-- ---- updates of the active alone

-- refused: no marks stand, and the outcome at the record's moment is the refusal
pub record ActiveRefused (m : Machine) (s : CallState) (update : Update) (t : Told) (e : Entry) (x : ReplicaState) : Type 0 where
  pub unmarked : x.marks ≡ None
  pub why : Refusal
  pub refused : outcome e.attributes update m.cluster.moment x.sections ≡ Err why
  -- the cause is the index for a write alone
  pub answer : t.end ≡ Some (Refused why.error (refused_cause s.op why.index))
  pub told : t.details ≡ beside.Nothing

-- held: the marks of another call stand, which is live; this one is to try again
pub record ActiveHeld (m : Machine) (call by : CallId) (t : Told) (x : ReplicaState) : Type 0 where
  pub marks : IsSomeAnd x.marks (λ marks. marks.call ≡ by)
  pub another : same_call by call ≡ false
  pub live : is_live m.cluster by ≡ true
  pub answer : t.end ≡ Some (Refused errors.TryAgain (Holder by))
  pub told : t.details ≡ beside.Nothing

-- what an update that begins on the active is answered: it goes ahead so, or is refused by the sections, or held off by the marks of another call
abbrev pub BeginsOnActive : Machine → CallState → Update → Bool → ℕ → ℕ → Told → (Entry → ReplicaState → Type 0) → StepReply → Type 0
BeginsOnActive m s update by_element k r t Ahead words.Ok = OnActive m update by_element k r Ahead
BeginsOnActive m s update by_element k r t Ahead words.Refused = OnActive m update by_element k r (ActiveRefused m s update t)
BeginsOnActive m s update by_element k r t Ahead (words.Held by) = OnActive m update by_element k r (λ e x. ActiveHeld m s.call by t x)
BeginsOnActive m s update by_element k r t Ahead reply = ⊥

-- applied: no marks stand, and the update has an outcome at the record's moment; it is answered OK, and a creation tells its identifier
pub record ApplyOk (m : Machine) (update : Update) (t : Told) (e : Entry) (x : ReplicaState) : Type 0 where
  pub unmarked : x.marks ≡ None
  pub fits : IsOk (outcome e.attributes update m.cluster.moment x.sections)
  pub answer : t.end ≡ Some (Done (update_answer update))
  pub told : t.details ≡ told_id update m.cluster.moment x.sections

-- an update in one step
abbrev pub ApplyRow : Machine → CallState → Update → ℕ → ℕ → Told → StepReply → Type 0
ApplyRow m s update k r t reply = BeginsOnActive m s update false k r t (ApplyOk m update t) reply

-- marked: no marks stand, and the write has an outcome at the record's moment; it goes on
pub record MarkOk (m : Machine) (update : Update) (t : Told) (e : Entry) (x : ReplicaState) : Type 0 where
  pub unmarked : x.marks ≡ None
  pub fits : IsOk (outcome e.attributes update m.cluster.moment x.sections)
  pub answer : t.end ≡ None
  pub told : t.details ≡ beside.Nothing

-- the beginning of a weak write
abbrev pub MarkRow : Machine → CallState → Update → ℕ → ℕ → Told → StepReply → Type 0
MarkRow m s update k r t reply = BeginsOnActive m s update true k r t (MarkOk m update t) reply

-- the marks are of the call's write, of which an element is left, or none
pub record AreMarksOf (call : CallId) (update : Update) (left : Bool) (marks : Marked) : Type 0 where
  pub call_is : marks.call ≡ call
  pub update_is : marks.update ≡ update
  pub left_is : is_left marks ≡ left

-- an element is done: the call's own marks stand, with one that is left; it goes on
abbrev pub ElementRow : Machine → CallId → Update → ℕ → ℕ → Told → StepReply → Type 0
ElementRow m call update k r t words.Ok =
    OnActive m update true k r (λ e x. IsSomeAnd x.marks (AreMarksOf call update true)) × (t.end ≡ None) × (t.details ≡ beside.Nothing)
ElementRow m call update k r t reply = ⊥

-- a weak write has been done: the call's own marks stand, with no element left; it is answered OK
abbrev pub UnmarkRow : Machine → CallId → Update → ℕ → ℕ → Told → StepReply → Type 0
UnmarkRow m call update k r t words.Ok =
    OnActive m update true k r (λ e x. IsSomeAnd x.marks (AreMarksOf call update false)) × (t.end ≡ Some (Done answers.Nothing)) × (t.details ≡ beside.Nothing)
UnmarkRow m call update k r t reply = ⊥

-- the step has made the marks of a weak write
abbrev pub is_marking : Verb → StepReply → Bool
is_marking verbs.Mark words.Ok = true
is_marking verb reply = false

-- the step made the marks of a weak write, in this generation
abbrev pub marks_in : ℕ → StepDone → Bool
marks_in generation d = is_marking d.verb d.reply && (d.generation == generation)

-- the call has made its marks in this generation
abbrev pub HasMarkedIn : CallState → ℕ → Type 0
HasMarkedIn s generation = list_any (marks_in generation) s.steps ≡ true

-- ---- reads, on the active

-- the active reads, or refuses as `read` does
abbrev pub ReadRow : Machine → List ReadElement → ℕ → ℕ → Told → Type 0
ReadRow m elements k r t = OnReplica m k r (λ e x. (e.active ≡ Some r) × ReadAnswer m elements x t.reply) where
  ReadAnswer : Machine → List ReadElement → ReplicaState → StepReply → Type 0
  ReadAnswer m elements x words.Ok =
      (pieces : List (List ℕ)) × (read elements m.cluster.moment x.sections ≡ Ok pieces) × (t.details ≡ beside.Pieces pieces)
      × (t.end ≡ Some (Done answers.Pieces))
  ReadAnswer m elements x words.Refused =
      (why : Refusal) × (read elements m.cluster.moment x.sections ≡ Err why) × (t.details ≡ beside.Nothing)
      × (t.end ≡ Some (Refused why.error (Index why.index)))
  ReadAnswer m elements x reply = ⊥

-- ---- synchronisations: what the active has is brought to the other replicas

-- a step serves its node that pulls what it has, installs there what was pulled, or finds that it is not older
abbrev pub is_service : Verb → StepReply → Bool
is_service verbs.Pull words.Ok = true
is_service verbs.Install words.Ok = true
is_service verbs.Install words.Older = true
is_service verb reply = false

-- the step has served this node
abbrev pub serves : ℕ → StepDone → Bool
serves r d = is_active d.node r && is_service d.verb d.reply

-- by what node n and those behind it are, each that is complete was served by one of the steps
abbrev pub all_served : List StepDone → ℕ → List ℕ → Bool
all_served steps n [] = true
all_served steps n (c ∷ cs) = (c == 0 || list_any (serves n) steps) && all_served steps (n + 1) cs

-- it is answered OK with the count that it has pulled, once each complete node was served by one of its steps; else it goes on
abbrev pub unless_unserved : List StepDone → List ℕ → ℕ → Option Outcome
unless_unserved steps complete count = if all_served steps 0 complete then Some (Done (answers.Pulled count)) else None

-- the steps of a call with this one, at a node
abbrev pub steps_with : Machine → CallState → Told → List StepDone
steps_with m s t = step_told m t ∷ s.steps

-- pulled: from the active, on which no marks stand
pub record PullOk (m : Machine) (s : CallState) (r : ℕ) (t : Told) (e : Entry) (x : ReplicaState) : Type 0 where
  pub alone : is_all e.attributes ≡ false
  pub active : e.active ≡ Some r
  pub in_time : IsInTime m s
  pub unmarked : x.marks ≡ None
  pub answer : t.end ≡ unless_unserved (steps_with m s t) e.complete (length x.effects)

-- held: the marks of another call stand there, which is live; this one is to try again
pub record PullHeld (m : Machine) (s : CallState) (r : ℕ) (by : CallId) (t : Told) (e : Entry) (x : ReplicaState) : Type 0 where
  pub active : e.active ≡ Some r
  pub in_time : IsInTime m s
  pub held : ActiveHeld m s.call by t x

-- what the active has is pulled, or the marks of another call hold that off
abbrev pub PullRow : Machine → CallState → ℕ → ℕ → Told → StepReply → Type 0
PullRow m s k r t words.Ok = OnReplica m k r (PullOk m s r t)
PullRow m s k r t (words.Held by) = OnReplica m k r (PullHeld m s r by t)
PullRow m s k r t reply = ⊥

-- installed: what the call has pulled is of the present generation, and this replica, another than the active, is behind it; or it is not, and stays
pub record InstallOk (m : Machine) (s : CallState) (r : ℕ) (t : Told) (behind : Bool) (e : Entry) (x : ReplicaState) : Type 0 where
  pub alone : is_all e.attributes ≡ false
  pub led : IsSome e.active
  pub other : is_active e.active r ≡ false
  pub in_time : IsInTime m s
  pub pulled : Snapshot
  pub in_hand : s.snapshot ≡ Some pulled
  pub present : pulled.generation ≡ e.generation
  pub behind_is : is_behind x pulled ≡ behind
  pub answer : t.end ≡ unless_unserved (steps_with m s t) e.complete (length pulled.effects)

-- what was pulled is installed at another complete node, or there is no need
abbrev pub InstallRow : Machine → CallState → ℕ → ℕ → Told → StepReply → Type 0
InstallRow m s k r t words.Ok = OnReplica m k r (InstallOk m s r t true)
InstallRow m s k r t words.Older = OnReplica m k r (InstallOk m s r t false)
InstallRow m s k r t reply = ⊥

-- ---- the setting of an active

-- held: a collocated checkpoint that no call holds, whose active is on this node, which is not the client's, and without marks
pub record HoldOk (s : CallState) (r : ℕ) (end : Option Outcome) (e : Entry) (x : ReplicaState) : Type 0 where
  pub collocated : is_collocated e.attributes ≡ true
  pub active : e.active ≡ Some r
  pub other : (r == s.kept.node) ≡ false
  pub free : e.hold ≡ None
  pub unmarked : x.marks ≡ None
  pub answer : end ≡ None

-- kept off: the marks of another call stand there, which is live; this one is to try again
pub record HoldKeptOff (m : Machine) (s : CallState) (r : ℕ) (by : CallId) (t : Told) (e : Entry) (x : ReplicaState) : Type 0 where
  pub collocated : is_collocated e.attributes ≡ true
  pub active : e.active ≡ Some r
  pub other : (r == s.kept.node) ≡ false
  pub free : e.hold ≡ None
  pub held : ActiveHeld m s.call by t x

-- the active of the checkpoint is held, or marks keep that off
abbrev pub HoldRow : Machine → CallState → ℕ → ℕ → Told → StepReply → Type 0
HoldRow m s k r t words.Ok = OnReplica m k r (HoldOk s r t.end)
HoldRow m s k r t (words.Held by) = OnReplica m k r (HoldKeptOff m s r by t)
HoldRow m s k r t reply = ⊥

-- a node may lead by this call: the call holds the checkpoint, or none does, and no node leads it, or this one
abbrev pub MayLead : CallId → ℕ → Option CallId → Option ℕ → Type 0
MayLead call r (Some holder) active = holder ≡ call
MayLead call r None None = Unit {0}
MayLead call r None (Some active) = active ≡ r

-- set: the client's node may lead a collocated checkpoint
pub record ActivateOk (s : CallState) (r : ℕ) (end : Option Outcome) (e : Entry) : Type 0 where
  pub collocated : is_collocated e.attributes ≡ true
  pub local : r ≡ s.kept.node
  pub may : MayLead s.call r e.hold e.active
  pub answer : end ≡ Some (Done answers.Nothing)

-- the active of the checkpoint is set
abbrev pub ActivateRow : Machine → CallState → ℕ → ℕ → StepReply → Option Outcome → Type 0
ActivateRow m s k r words.Ok end = IsSomeAnd (entry_of k m.cluster.entries) (ActivateOk s r end)
ActivateRow m s k r reply end = ⊥

-- ---- status and iterations, on the active

-- the status of its sections, with the checkpoint's attributes as they are now
pub record StatusOk (m : Machine) (r : ℕ) (end : Option Outcome) (details : Details) (e : Entry) (x : ReplicaState) : Type 0 where
  pub active : e.active ≡ Some r
  pub answer : end ≡ Some (Done answers.Status)
  pub told : details ≡ beside.Status (status (attributes_now e) m.cluster.moment x.sections)

-- the active tells the status
abbrev pub StatusRow : Machine → ℕ → ℕ → StepReply → Option Outcome → Details → Type 0
StatusRow m k r words.Ok end details = OnReplica m k r (StatusOk m r end details)
StatusRow m k r reply end details = ⊥

-- an iteration is started, for which the client has a free place
pub record IterOk (m : Machine) (s : CallState) (r : ℕ) (end : Option Outcome) (e : Entry) (x : ReplicaState) : Type 0 where
  pub active : e.active ≡ Some r
  pub room : (rooms_of m s).iterations ≡ true
  pub answer : end ≡ Some (Done answers.Nothing)

-- the active starts an iteration
abbrev pub IterRow : Machine → CallState → ℕ → ℕ → StepReply → Option Outcome → Type 0
IterRow m s k r words.Ok end = OnReplica m k r (IterOk m s r end)
IterRow m s k r reply end = ⊥

-- the next section that its iteration gives, or that none is left
abbrev pub NextAnswer : Option NextGiven → StepReply → Option Outcome → Details → Type 0
NextAnswer (Some next) words.Ok end details = (end ≡ Some (Done answers.Section)) × (details ≡ beside.Section (description next.section))
NextAnswer None words.Refused end details = (end ≡ Some (Refused errors.NoSections Plain)) × (details ≡ beside.Nothing)
NextAnswer next reply end details = ⊥

-- the active gives the next section, or says that none is left
pub record NextOk (m : Machine) (s : CallState) (r : ℕ) (t : Told) (e : Entry) (x : ReplicaState) : Type 0 where
  pub active : e.active ≡ Some r
  pub answer : NextAnswer (given (ids_asked m s) m.cluster.moment x.sections) t.reply t.end t.details

-- the active goes on with an iteration
abbrev pub NextRow : Machine → CallState → ℕ → ℕ → Told → Type 0
NextRow m s k r t = OnReplica m k r (NextOk m s r t)
