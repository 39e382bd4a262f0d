-- Which label is due, with its answer.
use Rattle.section_iter.specs.Room.{room_declared}
use Rattle.section_iter.specs.declared.room.Room.{Room}
use Rattle.std.specs.Prelude.{◌≡◌, ◌⊎◌, ℕ, ◌<◌, ◌≤◌, List, length, Option, Some, None, is_some, Bool, IsTrue, true, false, not, ◌&&◌}
use Rattle.ckpt_types.specs.declared.answers.Answer.TheVariants as answers
use Rattle.ckpt_types.specs.declared.answers.Outcome.{Outcome}
use Rattle.ckpt_types.specs.declared.ais_error.AisError.TheVariants.{TryAgain}
use Rattle.ckpt_types.specs.declared.answers.Cause.TheVariants.{Holder}
use Rattle.ckpt_types.specs.declared.answers.Outcome.TheVariants.{Done, Refused, NoMemory}
use Rattle.ckpt_types.specs.declared.attributes.CreationAttributes.{CreationAttributes}
use Rattle.ckpt_types.specs.declared.identities.ActorName.{ActorName}
use Rattle.ckpt_types.specs.declared.identities.ActorName.TheVariants.{Client, Node}
use Rattle.ckpt_types.specs.declared.identities.CallId.{CallId}
use Rattle.ckpt_types.specs.declared.identities.Who.TheVariants.{Actor}
use Rattle.ckpt_types.specs.declared.operation.Op.{Op}
use Rattle.node_core.specs.Payloads.{Payload}
use Rattle.ckpt_types.specs.Limits.{nodes_max}
use Rattle.node_msgs.specs.declared.requests.Request.{Request}
use Rattle.node_msgs.specs.declared.requests.Request.TheVariants as requests
use Rattle.node_msgs.specs.declared.replies.Reply.{Reply}
use Rattle.node_msgs.specs.declared.next.RecordStep.{RecordStep}
use Rattle.node_msgs.specs.declared.next.RecordStep.TheVariants as events
use Rattle.node_msgs.specs.declared.next.Next.{Next}
use Rattle.node_msgs.specs.declared.next.Next.TheVariants.{Serve, Event, End}
use Rattle.node_msgs.specs.declared.details.Details.{Details}
use Rattle.node_msgs.specs.declared.details.Details.TheVariants as beside
use Rattle.ckpt_types.specs.declared.words.OpWord.{OpWord}
use Rattle.node_msgs.specs.declared.steps.Verb.{Verb}
use Rattle.node_msgs.specs.declared.steps.Verb.TheVariants as verbs
use Rattle.node_msgs.specs.declared.steps.StepReply.{StepReply}
use Rattle.node_msgs.specs.declared.steps.StepReply.TheVariants as words
use Rattle.run_labels.specs.declared.labels.Label.{Label}
use Rattle.run_labels.specs.declared.labels.Label.TheVariants as labels
use Rattle.ckpt_types.specs.OpWord.{word_of_op, stepped_as}
use Rattle.client_handles.specs.declared.handle_view.HandleView.{HandleView}
use Rattle.ckpt_machine.specs.Drivers.{Driver, Rooms}
use Rattle.cluster_record.specs.declared.entries.Entry.{Entry}
use Rattle.cluster_record.specs.LookUps.{declared_in}
use Rattle.cluster_record.specs.RecordState.{RecordState, entry_of, is_live_client, home_of, is_up, no_nodes, IsMomentFrom}
use Rattle.node_msgs.specs.Requests.{ckpt_of}
use Rattle.node_core.specs.Serving.{update_answer, id_told, reply_at, details_at}
use Rattle.node_core.specs.Nodes.{MayReserve}
use Rattle.node_core.specs.Seen.{record_seen}
use Rattle.weak_marks.specs.Marks.{Marked, call_of}
use Rattle.node_msgs.specs.Steps.{word_of, verb_of, event_verb}
use Rattle.ckpt_machine.specs.Driving.{Kept, driver_start, driver_state, driver_next, driver_taken, driver_end, event_ckpt, event_node, event_refusal, takes_memory, step_end}
use Rattle.ckpt_machine.specs.Listing.{listing_at}
use Rattle.ckpt_machine.specs.Options.{is_weak, if_declared}
use Rattle.cluster_record.specs.Placement.{is_all}
use Rattle.ckpt_machine.specs.Machine.{Machine, ReplicaState, CallState, who}
use Rattle.ckpt_machine.specs.NodeJoins.{MayJoin}
use Rattle.ckpt_machine.specs.Propagation.{pull_answer, put_answer}
use Rattle.ckpt_machine.specs.RecordAfter.{event_after}
use Rattle.cluster_record.specs.Makings.{makings_of}
use Rattle.cluster_record.specs.StepDone.{StepDone, done_of, counting}
use Rattle.ckpt_types.specs.Asks.{Ask, MayAsk, asked, update_of, elements_of, IsBuilt}
use Rattle.ckpt_types.specs.Asks as asks
use Rattle.ckpt_machine.specs.Tables.{rooms_in, handle_asked, ckpt_of_handle, kept_asked, ids_of, takes_copy}
use Rattle.ckpt_machine.specs.Beginning.{begin_end, callbacks_told, takes_memory_at_once, Standing}
use Rattle.ckpt_machine.specs.Seen.{seen_at, seen_snapshot}
use Rattle.ckpt_machine.specs.Words.{IsWord}

-- ---- a step

-- what drives the call now
abbrev pub driver_of : CallState → Driver
driver_of s = driver_state s.begun s.steps

-- what drove it at its beginning is what drives a call that asks for this
abbrev pub IsDriven : CallState → Type 0
IsDriven s = driver_start s.call (asked s.op) s.kept ≡ Some s.begun

-- how many checkpoints an actor is making; a node makes none
abbrev pub makings_by : ActorName → List Entry → ℕ
makings_by (Client c) entries = makings_of c entries
makings_by (Node r) entries = 0

-- what the tables of a call's client have a free place for; each checkpoint that it is making has one for its handle
abbrev pub rooms_of : Machine → CallState → Rooms
rooms_of m s = rooms_in (makings_by s.call.actor m.cluster.entries) (m.tables s.call.actor)

-- what the call does next
abbrev pub due : Machine → CallState → Next
due m s = driver_next m.cluster (rooms_of m s) (driver_of s)

-- the identifiers that the iteration keeps with which a call goes on
abbrev pub ids_asked : Machine → CallState → List (List ℕ)
ids_asked m s = ids_of (kept_asked (asked s.op) (m.tables s.call.actor))

-- what travels beside a request of the call
abbrev pub payload_due : Machine → CallState → Payload
payload_due m s = record { update = update_of s.op; elements = elements_of s.op; ids = ids_asked m s; snapshot = seen_snapshot s.kept.declares s.snapshot }

-- a reservation may be refused for memory where none stands, and that of a copying, which takes a snapshot's room with it, in any case; every other answer
-- is that of the one replica
abbrev pub MayAnswer : Machine → CallState → Request → ℕ → Reply → Type 0
MayAnswer m s (requests.Reserve k) r answer = MayReserve (is_some (m.reserved k r) && not (takes_copy (asked s.op))) answer
MayAnswer m s request r answer = answer ≡ reply_at request (payload_due m s) (record_seen m.cluster (ckpt_of request) r) (seen_at m (ckpt_of request) r)

-- what comes with the answer, to be told beside it
abbrev pub details_due : Machine → CallState → Request → ℕ → Details
details_due m s request r = details_at request (payload_due m s) (record_seen m.cluster (ckpt_of request) r) (seen_at m (ckpt_of request) r)

-- a label tells what came with the step that ends its call
abbrev pub ended_details : Option Outcome → Details → Details
ended_details None details = beside.Nothing
ended_details (Some end) details = details

-- what a look answers: where nothing is left of an update, what that answers
abbrev pub look_end : CallState → Outcome → Outcome
look_end s (Done answers.Nothing) = Done (update_answer (update_of s.op))
look_end s o = o

-- and what is told beside it: of a creation the identifier that it has made
abbrev pub look_details : CallState → Outcome → Details
look_details s (Done answers.Created) = id_told s.created
look_details s o = beside.Nothing

-- how a look is told
abbrev pub look_word : Outcome → StepReply
look_word (Done answer) = words.Done
look_word o = words.Refused

-- the parts of a step's label behind its call
pub record Told : Type 0 where
  pub verb : Verb
  pub ckpt : Option ℕ
  pub node : Option ℕ
  pub reply : StepReply
  pub end : Option Outcome
  pub details : Details

-- how many updates a replica has
abbrev pub count_in : Option ReplicaState → ℕ
count_in None = 0
count_in (Some x) = length x.effects

-- the count that a step tells which was done: of the replica of which a slot was claimed, or that was pulled; 0 by any other
abbrev pub counted_at : Machine → Verb → Option ℕ → Option ℕ → StepReply → ℕ
counted_at m verbs.Claim (Some k) (Some r) words.Ok = count_in (m.replicas k r)
counted_at m verbs.Pull (Some k) (Some r) words.Ok = count_in (m.replicas k r)
counted_at m verb k r reply = 0

-- what a step at a node told its call
abbrev pub step_told : Machine → Told → StepDone
step_told m t = counting (counted_at m t.verb t.ckpt t.node t.reply) (done_of m.cluster t.verb t.ckpt t.node t.reply)

-- a node has served this request
pub record IsServed (m : Machine) (s : CallState) (r : ℕ) (request : Request) (t : Told) : Type 0 where
  pub answer : Reply
  pub may : MayAnswer m s request r answer
  pub verb : t.verb ≡ verb_of request
  pub ckpt : t.ckpt ≡ Some (ckpt_of request)
  pub node : t.node ≡ Some r
  pub reply : t.reply ≡ word_of answer
  pub details : t.details ≡ ended_details t.end (details_due m s request r)
  pub end : t.end ≡ (let done = step_told m t in driver_end m.cluster s.op done answer (driver_taken done (driver_of s)))

-- what the record refuses ends its call so; any other step is done, and ends it so, or what takes memory is refused it and ends
abbrev pub IsRecordAnswer : Option Outcome → Option Outcome → RecordStep → Told → Type 0
IsRecordAnswer (Some end) finish step t = (t.reply ≡ words.Refused) × (t.end ≡ Some end)
IsRecordAnswer None finish step t =
    ((t.reply ≡ words.Ok) × (t.end ≡ finish)) ⊎ (IsTrue (takes_memory step) × (t.reply ≡ words.Memory) × (t.end ≡ Some NoMemory))

-- the marks on a replica that is there
abbrev pub marks_on : Option ReplicaState → Option Marked
marks_on None = None
marks_on (Some x) = x.marks

-- the call whose marks on the active's replica keep a hold off
abbrev pub kept_off : Machine → Option ℕ → RecordStep → Option CallId
kept_off m (Some k) (events.Hold r) = call_of (marks_on (m.replicas k r))
kept_off m k step = None

-- marks keep a step off, and its call is to try again; else it is as the record answers
abbrev pub IsEventAnswer : Option CallId → Option Outcome → Option Outcome → RecordStep → Told → Type 0
IsEventAnswer (Some by) refusal finish step t = (t.reply ≡ words.Held by) × (t.end ≡ Some (Refused TryAgain (Holder by)))
IsEventAnswer None refusal finish step t = IsRecordAnswer refusal finish step t

-- how a step of the record ends its call where it is done, by the record behind it and by what drives the call then
abbrev pub event_done : Machine → CallState → RecordStep → Told → Option Outcome
event_done m s step t = step_end (event_after s.call (driver_of s) step m.cluster) (driver_taken (step_told m t) (driver_of s)) step t.ckpt

-- a step of the record
pub record IsEvent (m : Machine) (s : CallState) (step : RecordStep) (t : Told) : Type 0 where
  pub verb : t.verb ≡ event_verb step
  pub ckpt : t.ckpt ≡ event_ckpt m.cluster (driver_of s) step
  pub node : t.node ≡ event_node (driver_of s) step
  pub details : t.details ≡ beside.Nothing
  pub answer : IsEventAnswer (kept_off m t.ckpt step) (event_refusal m.cluster step (driver_of s)) (event_done m s step t) step t

-- the step is the due one, and its reply and end are the answers of the one replica that it asks and of the call's own steps
abbrev pub IsDone : Machine → CallState → Next → Told → Type 0
IsDone m s (Serve r request) t = IsServed m s r request t
IsDone m s (Event step) t = IsEvent m s step t
IsDone m s (End o) t =
    t ≡ record { verb = verbs.Look; ckpt = None; node = None; reply = look_word o; end = Some (look_end s o); details = look_details s (look_end s o) }

-- the step is of the call that is in hand under this name, and is what this does next
pub record IsDueStep (m : Machine) (call : CallId) (op : OpWord) (t : Told) : Type 0 where
  pub state : CallState
  pub in_hand : m.in_hand (stepped_as call op) ≡ Some state
  pub call_is : state.call ≡ call
  pub word : word_of_op state.op ≡ op
  pub done : IsDone m state (due m state) t

-- ---- a beginning

-- the handle that an operation is about
abbrev pub asked_handle : Machine → ActorName → Op → Option HandleView
asked_handle m a op = handle_asked (asked op) (m.tables a)

-- a client is live, or a node up
abbrev pub is_live_actor : ActorName → RecordState → Bool
is_live_actor (Client c) R = is_live_client c R
is_live_actor (Node r) R = is_up r R

-- what a beginning of an actor looks at
abbrev pub standing_of : Machine → ActorName → Op → Standing
standing_of m a op = record {
  live = is_live_actor a m.cluster;
  handle = asked_handle m a op;
  callbacks = (m.tables a).callbacks;
  pending = m.pending a;
}

-- the room for all identifiers that a checkpoint declares; none for a checkpoint that is gone
abbrev pub room_in : Option CreationAttributes → Room
room_in None = record { ids = 0; id_size = 0 }
room_in (Some a) = room_declared a

-- the room for the identifiers of the checkpoint that a call keeps, where it keeps one
abbrev pub room_at : RecordState → Option ℕ → Room
room_at R None = room_in None
room_at R (Some k) = room_in (declared_in (entry_of k R.entries))

-- what holds of the attributes of the checkpoint that a call keeps; not where it is gone
abbrev pub declares_at : (CreationAttributes → Bool) → RecordState → Option ℕ → Bool
declares_at is R None = false
declares_at is R (Some k) = if_declared is (declared_in (entry_of k R.entries))

-- what the checkpoint that a call keeps declares; nothing where it is gone
abbrev pub declared_at : RecordState → Option ℕ → Option CreationAttributes
declared_at R None = None
declared_at R (Some k) = declared_in (entry_of k R.entries)

-- the node of a client, or that which copies
abbrev pub home_by : ActorName → RecordState → ℕ
home_by (Client c) R = home_of c R
home_by (Node r) R = r

-- what a call keeps at its beginning
abbrev pub kept_at_beginning : RecordState → ActorName → Option HandleView → Kept
kept_at_beginning R a h = record {
  ckpt = ckpt_of_handle h;
  room = room_at R (ckpt_of_handle h);
  all = declares_at is_all R (ckpt_of_handle h);
  weak = declares_at is_weak R (ckpt_of_handle h);
  declares = declared_at R (ckpt_of_handle h);
  node = home_by a R;
  moment = R.moment;
}

-- what a call keeps behind a reservation for a checkpoint: a copying which this is, and what it declares
abbrev pub kept_reserving : Ask → ℕ → RecordState → Kept → Kept
kept_reserving asks.Copy k R kept = record kept { ckpt = Some k; all = declares_at is_all R (Some k); declares = declared_at R (Some k) }
kept_reserving ask k R kept = kept

-- an Initialize begins for a client that is not live, on a node that is up; a copying is of a node that is up
abbrev pub MayBegin : RecordState → ActorName → Ask → Type 0
MayBegin R a (asks.Enter r version callbacks) = (is_live_actor a R ≡ false) × (is_up r R ≡ true)
MayBegin R a asks.Copy = is_live_actor a R ≡ true
MayBegin R a ask = Unit {0}

-- no refusal is due
abbrev pub is_unrefused : Option Outcome → Bool
is_unrefused (Some (Refused error cause)) = false
is_unrefused due = true

-- a call answers at once by its first refusal, or OK, or goes on; one that takes memory then may be refused it where no refusal is due
abbrev pub IsBeginEnd : Ask → Option Outcome → Option Outcome → Type 0
IsBeginEnd ask due end = (end ≡ due) ⊎ (IsTrue (takes_memory_at_once ask) × IsTrue (is_unrefused due) × (end ≡ Some NoMemory))

-- the call begins, and answers at once or goes on
pub record IsBegun (m : Machine) (call : CallId) (op : Op) (end : Option Outcome) (details : Details) : Type 0 where
  pub asker : MayAsk call.actor (asked op)
  pub built : IsBuilt op
  pub number : call.number ≡ m.next call.actor
  pub none_in_hand : m.in_hand (Actor call.actor) ≡ None
  pub may : MayBegin m.cluster call.actor (asked op)
  pub answer : IsBeginEnd (asked op) (begin_end (standing_of m call.actor op) (asked op)) end
  pub told : details ≡ callbacks_told end (asked op) (m.pending call.actor)

-- ---- any label

-- a node fails; the label says whether it was up
abbrev pub MayFail : RecordState → ℕ → Bool → Type 0
MayFail R r was_up = (r < nodes_max) × (is_up r R ≡ was_up)

-- the label is due in this state
abbrev pub IsDue : Machine → Label → Type 0
IsDue m (labels.Began call op end details) = IsBegun m call op end details
IsDue m (labels.Stepped call op verb k r reply end details) =
    IsDueStep m call op (record { verb = verb; ckpt = k; node = r; reply = reply; end = end; details = details })
IsDue m (labels.Word who word said) = IsWord m who word said
IsDue m (labels.Nodes n) = (0 < n) × (n ≤ nodes_max) × (m.cluster.last_incarnations ≡ no_nodes)
IsDue m (labels.Moved t) = IsMomentFrom m.cluster.moment t
IsDue m (labels.Failed r was_up) = MayFail m.cluster r was_up
IsDue m (labels.Joined r incarnation) = MayJoin m.cluster r incarnation
IsDue m (labels.Shown k replicas) = replicas ≡ listing_at m k
IsDue m (labels.Pulled k reply) = reply ≡ pull_answer m k
IsDue m (labels.Put k r reply) = reply ≡ put_answer m k r
