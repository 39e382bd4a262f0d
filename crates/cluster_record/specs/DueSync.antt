-- What a synchronisation and the setting of an active do next, by their own steps and the record.
use Rattle.std.specs.Prelude.{ℕ, ◌+◌, List, [], ◌∷◌, replicate, slice_set, Option, Some, None, Bool, true, false, not, ◌&&◌, ◌==◌, if◌then◌else◌, ℤ}
use Rattle.ckpt_types.specs.declared.ais_error.AisError.TheVariants.{NotExist, TryAgain}
use Rattle.ckpt_types.specs.declared.answers.Answer.TheVariants.{Pulled}
use Rattle.ckpt_types.specs.declared.answers.Cause.TheVariants.{Plain, Generations, Holder}
use Rattle.ckpt_types.specs.declared.answers.Outcome.{Outcome}
use Rattle.ckpt_types.specs.declared.answers.Outcome.TheVariants.{Done, Refused}
use Rattle.ckpt_types.specs.declared.identities.CallId.{CallId}
use Rattle.ckpt_types.specs.Limits.{nodes_max}
use Rattle.node_msgs.specs.declared.requests.Request.TheVariants as requests
use Rattle.node_msgs.specs.declared.next.Next.{Next}
use Rattle.node_msgs.specs.declared.next.Next.TheVariants.{Serve, Event, End}
use Rattle.node_msgs.specs.declared.next.RecordStep.TheVariants as events
use Rattle.node_msgs.specs.declared.steps.Verb.{Verb}
use Rattle.node_msgs.specs.declared.steps.Verb.TheVariants as verbs
use Rattle.node_msgs.specs.declared.steps.StepReply.{StepReply}
use Rattle.node_msgs.specs.declared.steps.StepReply.TheVariants as words
use Rattle.cluster_record.specs.declared.calls.PulledAt.{PulledAt}
use Rattle.cluster_record.specs.declared.calls.SyncKind.{SyncKind}
use Rattle.cluster_record.specs.declared.calls.SyncKind.TheVariants.{Synchronize, ActiveSet}
use Rattle.cluster_record.specs.declared.entries.Entry.{Entry}
use Rattle.cluster_record.specs.Calls.{same_call}
use Rattle.cluster_record.specs.DueOpen.{in_time}
use Rattle.cluster_record.specs.RecordState.{RecordState, entry_of}
use Rattle.cluster_record.specs.StepDone.{StepDone}

-- what such a call keeps: what it has pulled, once it has, and by node whether that is served
pub record SyncState : Type 0 where
  pub call : CallId
  pub ckpt : ℕ
  pub kind : SyncKind
  pub pulled : Option PulledAt
  pub served : List Bool

-- a call that begins
abbrev pub sync_begun : CallId → ℕ → SyncKind → SyncState
sync_begun call k kind = record { call = call; ckpt = k; kind = kind; pulled = None; served = replicate nodes_max false }

-- ---- what is next of a synchronisation

-- a node is complete, and is not served
abbrev pub is_unserved : ℕ → Bool → Bool
is_unserved incarnation served = not (incarnation == 0) && not served

-- the lowest such node, counted from n
abbrev pub first_unserved : ℕ → List ℕ → List Bool → Option ℕ
first_unserved n [] served = None
first_unserved n (c ∷ cs) [] = None
first_unserved n (c ∷ cs) (b ∷ bs) = if is_unserved c b then Some n else first_unserved (n + 1) cs bs

-- what was pulled is installed at the next node; where all are served, the count that was pulled is the answer
abbrev pub install_next : CallId → ℕ → ℕ → Option ℕ → Next
install_next call k count (Some r) = Serve r (requests.Install call k)
install_next call k count None = End (Done (Pulled count))

-- the active is pulled first; where the generation is another since, it is to try again
abbrev pub unless_stale : SyncState → Entry → ℕ → Option PulledAt → Next
unless_stale s e r None = Serve r (requests.Pull s.call s.ckpt)
unless_stale s e r (Some p) =
    if p.generation == e.generation then install_next s.call s.ckpt p.count (first_unserved 0 e.complete s.served)
    else End (Refused TryAgain (Generations p.generation e.generation))

-- ---- what is next of the setting of an active

-- a node that is the active's already, or where there is none, leads at once; else what the active has is held first
abbrev pub lead_next : ℕ → Option ℕ → Next
lead_next local None = Event (events.Activate local)
lead_next local (Some r) = if r == local then Event (events.Activate local) else Event (events.Hold r)

-- behind its own hold the call sets the active; that of another has it try again
abbrev pub unless_held : CallId → ℕ → Option ℕ → Option CallId → Next
unless_held call local active None = lead_next local active
unless_held call local active (Some holder) = if same_call holder call then Event (events.Activate local) else End (Refused TryAgain (Holder holder))

-- ---- what is next of either

-- a synchronisation is refused without an active, and then when it is too late
abbrev pub synchronize_next : RecordState → SyncState → Option ℤ → Entry → Option ℕ → Next
synchronize_next R s deadline e None = End (Refused NotExist Plain)
synchronize_next R s deadline e (Some r) = in_time deadline R.moment (unless_stale s e r s.pulled)

-- by what it asks for
abbrev pub kind_next : RecordState → SyncState → Entry → SyncKind → Next
kind_next R s e (Synchronize deadline) = synchronize_next R s deadline e e.active
kind_next R s e (ActiveSet local) = unless_held s.call local e.active e.hold

-- a checkpoint that is gone is refused with NOT_EXIST
abbrev pub sync_on : RecordState → SyncState → Option Entry → Next
sync_on R s None = End (Refused NotExist Plain)
sync_on R s (Some e) = kind_next R s e s.kind

-- what is next of such a call, by the record
abbrev pub sync_next : RecordState → SyncState → Next
sync_next R s = sync_on R s (entry_of s.ckpt R.entries)

-- ---- behind a step

-- the node of a step is served
abbrev pub served_at : Option ℕ → List Bool → List Bool
served_at None served = served
served_at (Some r) served = slice_set served r true

-- behind its pull it keeps the generation and the count, and has no need to serve the active; a node that has taken what was pulled, or is not older, is served
abbrev pub sync_taken_by : StepDone → SyncState → Verb → StepReply → SyncState
sync_taken_by d s verbs.Pull words.Ok = record s { pulled = Some (record { generation = d.generation; count = d.count }); served = served_at d.node s.served }
sync_taken_by d s verbs.Install words.Ok = record s { served = served_at d.node s.served }
sync_taken_by d s verbs.Install words.Older = record s { served = served_at d.node s.served }
sync_taken_by d s verb reply = s

-- what the call keeps behind a step
abbrev pub sync_taken : StepDone → SyncState → SyncState
sync_taken d s = sync_taken_by d s d.verb d.reply

-- ---- how it ends by a node's reply

-- with the count that was pulled, where no node is left
abbrev pub ended_by : ℕ → Option ℕ → Option Outcome
ended_by count None = Some (Done (Pulled count))
ended_by count (Some r) = None

-- only where it has pulled
abbrev pub sync_ended : List ℕ → List Bool → Option PulledAt → Option Outcome
sync_ended complete served None = None
sync_ended complete served (Some p) = ended_by p.count (first_unserved 0 complete served)
