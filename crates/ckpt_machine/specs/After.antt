-- The state after a label.
use Rattle.std.specs.Option.{option_or, option_map}
use Rattle.std.specs.Prelude.{ℕ, ◌+◌, List, [], ◌∷◌, ◌++◌, Option, Some, None, Bool, true, false, ◌==◌, ◌&&◌, if◌then◌else◌, ℤ, slice_index}
use Rattle.ckpt_types.specs.declared.answers.Answer.TheVariants as answers
use Rattle.ckpt_types.specs.declared.answers.Outcome.{Outcome}
use Rattle.ckpt_types.specs.declared.answers.Outcome.TheVariants.{Done}
use Rattle.ckpt_types.specs.declared.attributes.CreationAttributes.{CreationAttributes}
use Rattle.ckpt_types.specs.declared.identities.ActorName.{ActorName}
use Rattle.ckpt_types.specs.declared.identities.CallId.{CallId}
use Rattle.ckpt_types.specs.declared.identities.Who.{Who}
use Rattle.ckpt_types.specs.declared.identities.Who.TheVariants.{Actor}
use Rattle.ckpt_types.specs.declared.identities.Who.TheVariants as whos
use Rattle.ckpt_types.specs.declared.operation.Op.{Op}
use Rattle.ckpt_types.specs.declared.update.Update.{Update}
use Rattle.ckpt_types.specs.declared.update.Update.TheVariants as updates
use Rattle.ckpt_types.specs.Sections.{Section}
use Rattle.ckpt_types.specs.Updates.{outcome}
use Rattle.ckpt_types.specs.Reads.{NextGiven, given, chosen}
use Rattle.ckpt_types.specs.declared.sections.Choice.{Choice}
use Rattle.ckpt_types.specs.declared.words.OpWord.{OpWord}
use Rattle.node_msgs.specs.declared.steps.Verb.{Verb}
use Rattle.node_msgs.specs.declared.steps.Verb.TheVariants as verbs
use Rattle.node_msgs.specs.declared.steps.StepReply.{StepReply}
use Rattle.node_msgs.specs.declared.steps.StepReply.TheVariants as words
use Rattle.run_labels.specs.declared.labels.Label.{Label}
use Rattle.run_labels.specs.declared.labels.Label.TheVariants as labels
use Rattle.ckpt_types.specs.OpWord.{word_of_op, is_async, stepped_as}
use Rattle.client_handles.specs.declared.handle_view.HandleView.{HandleView}
use Rattle.ckpt_machine.specs.Drivers.{Driver}
use Rattle.cluster_record.specs.declared.entries.Entry.{Entry}
use Rattle.cluster_record.specs.Placement.{is_all}
use Rattle.replica.specs.Replicas.{Replica, or_same, first_written, elements_left}
use Rattle.cluster_record.specs.Calls.{client_of, same_actor, same_call, put_actor, left}
use Rattle.cluster_record.specs.Places.{put2}
use Rattle.cluster_record.specs.RecordState.{RecordState, entry_of, complete_of, brought_up, moved, swept, entered, created_as, finished, opened, undone, closed, unlinked, retained, departed, hold_set, active_set}
use Rattle.node_core.specs.Serving.{made_id}
use Rattle.weak_marks.specs.Marks.{Marked, with_next_done}
use Rattle.ckpt_machine.specs.Driving.{Kept, driver_start}
use Rattle.ckpt_machine.specs.Machine.{Machine, Effect, Applied, Staged, ReplicaState, Snapshot, CallState, who}
use Rattle.ckpt_machine.specs.Propagation.{source_at, target_at, with_pulled, with_put, copied, replica_from}
use Rattle.client_handles.specs.ClientState.{ClientState}
use Rattle.call_dispatch.specs.PendingCalls.{PendingCalls, no_pending, with_begun, ended_in, forgotten_over, dispatched, given_number, goes_over, find_async}
use Rattle.call_dispatch.specs.declared.async_call.AsyncCall.{AsyncCall}
use Rattle.ckpt_types.specs.declared.calls.AsyncKind.{AsyncKind}
use Rattle.ckpt_types.specs.declared.calls.AsyncKind.TheVariants as kinds
use Rattle.ckpt_types.specs.declared.operation.Op.TheVariants as ops
use Rattle.cluster_record.specs.Joining.{completed}
use Rattle.cluster_record.specs.Makings.{making_of}
use Rattle.cluster_record.specs.StepDone.{done_of, counting, generation_in}
use Rattle.ckpt_types.specs.Asks.{Ask, asked, update_of, invocation_of}
use Rattle.ckpt_types.specs.Asks as asks
use Rattle.ckpt_machine.specs.Tables.{handle_closed, started, gone_on, ended_at_once, tables_done}
use Rattle.ckpt_machine.specs.Whose.{is_of, put_who}
use Rattle.ckpt_machine.specs.Seen.{seen_at}
use Rattle.ckpt_machine.specs.Due.{asked_handle, counted_at, ids_asked, kept_at_beginning, kept_reserving}
use Rattle.ckpt_machine.specs.Failing.{failed_at}
use Rattle.ckpt_machine.specs.NodeJoins.{joined_at}
pub use Rattle.ckpt_machine.specs.Under.{opened_state, replica_under, replicas_under, reservation_under, snapshot_under, with_record}

-- ---- what a step changes

-- the moment of the first slot on a complete node, or the record's
abbrev pub moment_of_slot : Option Staged → ℤ → ℤ
moment_of_slot None t = t
moment_of_slot (Some slot) t = slot.moment

-- the moment of the slot of a replica, or this one
abbrev pub moment_or : Option ReplicaState → ℤ → ℤ
moment_or None t = t
moment_or (Some x) t = moment_of_slot x.slot t

-- the moment of the first slot from a node on, or this one
abbrev pub moment_from : (ℕ → Option ReplicaState) → ℤ → ℕ → List ℕ → ℤ
moment_from replicas t n [] = t
moment_from replicas t n (c ∷ cs) = if c == 0 then moment_from replicas t (n + 1) cs else moment_or (replicas n) (moment_from replicas t (n + 1) cs)

-- the moment of the slots of a checkpoint, or the present one
abbrev pub staged_moment : Machine → ℕ → ℤ
staged_moment m k = moment_from (m.replicas k) m.cluster.moment 0 (complete_of (entry_of k m.cluster.entries))

-- this call stages this update
abbrev pub with_slot : CallId → Update → ℤ → ReplicaState → ReplicaState
with_slot call update t x = record x { slot = Some (record { owner = call; origin = call; update = update; moment = t }) }

-- the replica has taken the update of a call at a moment: its sections are the outcome, and it has the effect
abbrev pub having_taken : CreationAttributes → CallId → Update → ℤ → ReplicaState → ReplicaState
having_taken a call update t x = record x {
  sections = or_same (outcome a update t x.sections) x.sections;
  effects = x.effects ++ Applied call update t ∷ [];
}

-- the effect that a commit leaves of what was staged
abbrev pub effect_of : Staged → Effect
effect_of slot = Applied slot.origin slot.update slot.moment

-- the replica has taken what was staged
abbrev pub committed_slot : CreationAttributes → ReplicaState → Option Staged → ReplicaState
committed_slot a x None = x
committed_slot a x (Some slot) = record (having_taken a slot.origin slot.update slot.moment x) { slot = None }

-- the replica has taken what was staged on it, by what its checkpoint declares
abbrev pub with_committed : Option Entry → ReplicaState → ReplicaState
with_committed None x = x
with_committed (Some e) x = committed_slot e.attributes x x.slot

-- the replica has taken an update in one step, by what its checkpoint declares
abbrev pub with_applied : CallId → Update → ℤ → Option Entry → ReplicaState → ReplicaState
with_applied call update t None x = x
with_applied call update t (Some e) x = having_taken e.attributes call update t x

-- a slot is the call's from then on
abbrev pub slot_claimed : CallId → Option Staged → Option Staged
slot_claimed call None = None
slot_claimed call (Some slot) = Some (record slot { owner = call })

-- the call owns what is staged on the replica
abbrev pub with_claim : CallId → ReplicaState → ReplicaState
with_claim call x = record x { slot = slot_claimed call x.slot }

-- what was staged is withdrawn
abbrev pub without_slot : ReplicaState → ReplicaState
without_slot x = record x { slot = None }

-- the marks of the weak write of a call stand on the replica, of which no element is done
abbrev pub with_marks : CallId → Update → ℤ → ReplicaState → ReplicaState
with_marks call update t x = record x { marks = Some (record { call = call; update = update; moment = t; done = 0; generation = x.generation }) }

-- the next element of the weak write is done, at the moment of its marks
abbrev pub next_element_written : CreationAttributes → ReplicaState → Option Marked → ReplicaState
next_element_written a x None = x
next_element_written a x (Some marked) = record x {
  sections = first_written a marked.moment (elements_left marked) x.sections;
  marks = with_next_done (Some marked);
}

-- by what its checkpoint declares
abbrev pub with_next_element : Option Entry → ReplicaState → ReplicaState
with_next_element None x = x
with_next_element (Some e) x = next_element_written e.attributes x x.marks

-- the weak write has been done, and its marks go
abbrev pub marks_ended : ReplicaState → Option Marked → ReplicaState
marks_ended x None = x
marks_ended x (Some marked) = record x {
  effects = x.effects ++ Applied marked.call marked.update marked.moment ∷ [];
  marks = None;
}

-- whatever marks stand on it
abbrev pub without_marks : ReplicaState → ReplicaState
without_marks x = marks_ended x x.marks

-- the replica has what a snapshot in hand has
abbrev pub with_installed : Option Snapshot → ReplicaState → ReplicaState
with_installed None x = x
with_installed (Some s) x = replica_from s x

-- the replica of the active has what was held, where something was, and the present generation of its checkpoint
abbrev pub with_lead : Option Snapshot → ℕ → ReplicaState → ReplicaState
with_lead s generation x = record (with_installed s x) { generation = generation }

-- one replica is changed, where the node has it
abbrev pub change_replica : Machine → ℕ → ℕ → Option ReplicaState → (ReplicaState → ReplicaState) → Machine
change_replica m k r None change = m
change_replica m k r (Some x) change = record m { replicas = put2 m.replicas k r (Some (change x)) }

-- where the reply is OK
abbrev pub on_ok : StepReply → Machine → Machine → Machine
on_ok words.Ok m after_it = after_it
on_ok reply m after_it = m

-- what a look changes, by its reply
abbrev pub on_look : StepReply → Machine → Machine → Machine → Machine
on_look words.Done m done refused = done
on_look words.Refused m done refused = refused
on_look reply m done refused = m

-- what becomes of the machine where the label names one
abbrev pub at_some : Option ℕ → Machine → (ℕ → Machine) → Machine
at_some None m change = m
at_some (Some n) m change = change n

-- where a label names a checkpoint and a node
abbrev pub on_replica : Option ℕ → Option ℕ → Machine → (ℕ → ℕ → Machine) → Machine
on_replica k r m change = at_some k m (λ k. at_some r m (λ r. change k r))

-- what the replica of a node gives next to one who keeps these identifiers
abbrev pub given_at : List (List ℕ) → ℤ → Option Replica → Option NextGiven
given_at ids now None = None
given_at ids now (Some x) = given ids now x.sections

-- what it gives to keep to an iteration that starts
abbrev pub chosen_at : Choice → ℤ → Option Replica → List (List ℕ)
chosen_at choice now None = []
chosen_at choice now (Some x) = chosen choice now x.sections

-- the tables of an actor are changed
abbrev pub with_tables : ActorName → (ClientState → ClientState) → Machine → Machine
with_tables a change m = record m { tables = put_actor m.tables a (change (m.tables a)) }

-- the tables of the client of a call are changed as its step of the record, which is done, makes of them
abbrev pub with_tables_done : CallState → Verb → Option ℕ → Machine → Machine
with_tables_done s verb k m = with_tables s.call.actor (tables_done m.cluster (asked s.op) verb k) m

-- the opener's handle of a checkpoint, by what the record has of it now
abbrev pub with_given : CallState → ℕ → Machine → Machine
with_given s k m = with_tables_done s verbs.Open (Some k) m

-- the asynchronous calls of an actor that are not dispatched
abbrev pub with_pending : ActorName → (PendingCalls → PendingCalls) → Machine → Machine
with_pending a change m = record m { pending = put_actor m.pending a (change (m.pending a)) }

-- no asynchronous call of the actor is left, neither in hand nor to be dispatched
abbrev pub without_calls : ActorName → Machine → Machine
without_calls a m = with_pending a (λ p. no_pending) (record m { in_hand = λ w. if is_of a w then None else m.in_hand w })

-- the call is a synchronisation over the handle of this number
abbrev pub is_over : ℕ → Option AsyncCall → Bool
is_over handle None = false
is_over handle (Some call) = goes_over handle call

-- it is an asynchronous call that goes with the handle of this number, where one ends
abbrev pub goes_with : Option ℕ → ActorName → PendingCalls → Who → Bool
goes_with None a p w = false
goes_with (Some handle) a p (Actor b) = false
goes_with (Some handle) a p (whos.Call call) = same_actor call.actor a && is_over handle (find_async call p.unfinished)

-- what is left of those that are not dispatched
abbrev pub left_over : Option ℕ → PendingCalls → PendingCalls
left_over None p = p
left_over (Some handle) p = forgotten_over handle p

-- where a handle ends, the actor's asynchronous synchronisations over it go with it
abbrev pub without_syncs : Option ℕ → ActorName → Machine → Machine
without_syncs handle a m = with_pending a (left_over handle) (record m { in_hand = λ w. if goes_with handle a (m.pending a) w then None else m.in_hand w })

-- the handle is ended that the call ends, if it ends one, with the synchronisations over it
abbrev pub with_closed : CallState → Machine → Machine
with_closed s m = with_tables_done s verbs.Close None (without_syncs (handle_closed (asked s.op) (m.tables s.call.actor)) s.call.actor m)

-- the iteration that the call starts keeps what the replica of a node gives to its choice now
abbrev pub with_started : CallState → ℕ → ℕ → Machine → Machine
with_started s k r m = with_tables s.call.actor (started (asked s.op) s.kept.room (λ choice. chosen_at choice m.cluster.moment (seen_at m k r))) m

-- the iteration of the call has given the section that comes next on the replica of a node
abbrev pub with_gone_on : CallState → ℕ → ℕ → Machine → Machine
with_gone_on s k r m = with_tables s.call.actor (gone_on (asked s.op) (given_at (ids_asked m s) m.cluster.moment (seen_at m k r))) m

-- the record takes a step, and what is over is swept away behind it
abbrev pub record_step : (RecordState → RecordState) → Machine → Machine
record_step step m = with_record m (swept (step m.cluster))

-- the replica of a node leads its checkpoint, with what was held
abbrev pub led_from : Option Snapshot → ℕ → ℕ → Machine → Machine
led_from s k r m = change_replica m k r (m.replicas k r) (with_lead s (generation_in (entry_of k m.cluster.entries)))

-- the slot of a copying, whose update changes nothing, where updates are on all replicas
abbrev pub slot_copied : CallId → ℤ → Bool → Option Staged
slot_copied call t true = Some (record { owner = call; origin = call; update = updates.Nothing; moment = t })
slot_copied call t false = None

-- the replica on a node that is complete from then on has what was pulled, the present generation of its checkpoint, and the slot of the copying, where
-- updates are on all replicas
abbrev pub replica_copied : CallId → ℤ → Option Entry → Option Snapshot → Option ReplicaState
replica_copied call t (Some e) (Some s) =
    Some (record { sections = s.sections; effects = s.effects; generation = e.generation; slot = slot_copied call t (is_all e.attributes); marks = None })
replica_copied call t e s = None

-- so has the replica on the node that a copying has made complete
abbrev pub with_replica_copied : CallState → ℕ → ℕ → ℤ → Machine → Machine
with_replica_copied s k r t m = record m { replicas = put2 m.replicas k r (replica_copied s.call t (entry_of k m.cluster.entries) s.snapshot) }

-- a checkpoint is in the making by a call that asks to open it
abbrev pub created_for : CallId → Ask → RecordState → RecordState
created_for call (asks.Open place name flags timeout a) R = created_as call name a R
created_for call ask R = R

-- the retention that is asked for
abbrev pub retained_for : Ask → ℕ → RecordState → RecordState
retained_for (asks.Retain place duration) k R = retained k duration R
retained_for ask k R = R

-- the node has reserved for a checkpoint, in its present incarnation
abbrev pub with_reservation : ℕ → ℕ → Machine → Machine
with_reservation k r m = record m { reserved = put2 m.reserved k r (Some (slice_index m.cluster.up r)) }

-- what the call is making is undone, where it is making a checkpoint
abbrev pub without_making : Option ℕ → Machine → Machine
without_making None m = m
without_making (Some k) m = record_step (undone k) m

-- what a step changes, the call's own steps aside
abbrev pub changed : Machine → CallState → Verb → Option ℕ → Option ℕ → StepReply → Machine
changed m s verbs.Enter k r reply =
    on_ok reply m (at_some r m (λ r. with_tables_done s verbs.Enter k (record_step (entered (client_of s.call) r s.call.number) m)))
changed m s verbs.Leave k r reply = on_ok reply m (without_calls s.call.actor (with_tables_done s verbs.Leave k (record_step (departed (client_of s.call)) m)))
changed m s verbs.Create k r reply = on_ok reply m (record_step (created_for s.call (asked s.op)) m)
changed m s verbs.Reserve k r reply = on_ok reply m (on_replica k r m (λ k r. with_reservation k r m))
changed m s verbs.Finish k r reply = on_ok reply m (at_some k m (λ k. with_given s k (record_step (finished k (client_of s.call)) m)))
changed m s verbs.Undo k r reply = on_ok reply m (at_some k m (λ k. record_step (undone k) m))
changed m s verbs.Open k r reply = on_ok reply m (at_some k m (λ k. with_given s k (record_step (opened k (client_of s.call)) m)))
changed m s verbs.Close k r reply = on_ok reply m (at_some k m (λ k. with_closed s (record_step (closed k (client_of s.call)) m)))
changed m s verbs.Unlink k r reply = on_ok reply m (at_some k m (λ k. record_step (unlinked k) m))
changed m s verbs.Retain k r reply = on_ok reply m (at_some k m (λ k. record_step (retained_for (asked s.op) k) m))
changed m s verbs.Stage k r reply =
    on_ok reply m (on_replica k r m (λ k r. change_replica m k r (m.replicas k r) (with_slot s.call (update_of s.op) (staged_moment m k))))
changed m s verbs.Claim k r reply = on_ok reply m (on_replica k r m (λ k r. change_replica m k r (m.replicas k r) (with_claim s.call)))
changed m s verbs.Withdraw k r reply = on_ok reply m (on_replica k r m (λ k r. change_replica m k r (m.replicas k r) without_slot))
changed m s verbs.Commit k r reply =
    on_ok reply m (on_replica k r m (λ k r. change_replica m k r (m.replicas k r) (with_committed (entry_of k m.cluster.entries))))
changed m s verbs.Apply k r reply =
    on_ok reply m (on_replica k r m
    (λ k r. change_replica m k r (m.replicas k r) (with_applied s.call (update_of s.op) m.cluster.moment (entry_of k m.cluster.entries))))
changed m s verbs.Mark k r reply =
    on_ok reply m (on_replica k r m (λ k r. change_replica m k r (m.replicas k r) (with_marks s.call (update_of s.op) m.cluster.moment)))
changed m s verbs.Element k r reply =
    on_ok reply m (on_replica k r m (λ k r. change_replica m k r (m.replicas k r) (with_next_element (entry_of k m.cluster.entries))))
changed m s verbs.Unmark k r reply = on_ok reply m (on_replica k r m (λ k r. change_replica m k r (m.replicas k r) without_marks))
changed m s verbs.Install k r reply = on_ok reply m (on_replica k r m (λ k r. change_replica m k r (m.replicas k r) (with_installed s.snapshot)))
changed m s verbs.Iter k r reply = on_ok reply m (on_replica k r m (λ k r. with_started s k r m))
changed m s verbs.Next k r reply = on_ok reply m (on_replica k r m (λ k r. with_gone_on s k r m))
changed m s verbs.Hold k r reply = on_ok reply m (at_some k m (λ k. record_step (hold_set k s.call) m))
changed m s verbs.Activate k r reply = on_ok reply m (on_replica k r m (λ k r. led_from s.snapshot k r (record_step (active_set k r) m)))
changed m s verbs.Complete k r reply =
    on_ok reply m (on_replica k r m (λ k r. with_replica_copied s k r (staged_moment m k) (record_step (completed k r) m)))
changed m s verbs.Look k r reply = on_look reply m (with_closed s m) (without_making (making_of s.call m.cluster) m)
changed m s verb k r reply = m

-- ---- what a call keeps of a step

-- the identifier that the commit of the call's own creation makes; else the one that an earlier commit made
abbrev pub made_by : CallId → Option (List ℕ) → List Section → Option Staged → Option (List ℕ)
made_by call before sections None = before
made_by call before sections (Some slot) = if same_call slot.origin call then option_or (made_id slot.update slot.moment sections) before else before

-- made by a commit on a replica
abbrev pub made_on : CallId → Option (List ℕ) → Option ReplicaState → Option (List ℕ)
made_on call before None = before
made_on call before (Some x) = made_by call before x.sections x.slot

-- the identifier that the call has made behind a step
abbrev pub created_by : Machine → CallState → Verb → Option ℕ → Option ℕ → Option (List ℕ)
created_by m s verbs.Commit (Some k) (Some r) = made_on s.call s.created (m.replicas k r)
created_by m s verb k r = s.created

-- the snapshot that the call has in hand behind a step: of the replica that it has pulled, or holds; none behind a reservation
abbrev pub pulled_by : Machine → CallState → Verb → Option ℕ → Option ℕ → StepReply → Option Snapshot
pulled_by m s verbs.Pull (Some k) (Some r) words.Ok = option_map copied (m.replicas k r)
pulled_by m s verbs.Hold (Some k) (Some r) words.Ok = option_map copied (m.replicas k r)
pulled_by m s verbs.Reserve k r words.Ok = None
pulled_by m s verb k r reply = s.snapshot

-- what the call keeps of a checkpoint behind a step: a copying, of that for which its node has reserved
abbrev pub kept_by : Machine → CallState → Verb → Option ℕ → StepReply → Kept
kept_by m s verbs.Reserve (Some k) words.Ok = kept_reserving (asked s.op) k m.cluster s.kept
kept_by m s verb k reply = s.kept

-- what a call keeps behind a step of what the state before it had: the count that was told, what was created, what was pulled, and for which checkpoint was
-- reserved; the record is as it is after the step
abbrev pub kept_behind : Machine → CallState → RecordState → Verb → Option ℕ → Option ℕ → StepReply → CallState
kept_behind m s R verb k r reply = record s {
  steps = counting (counted_at m verb k r reply) (done_of R verb k r reply) ∷ s.steps;
  created = created_by m s verb k r;
  snapshot = pulled_by m s verb k r reply;
  kept = kept_by m s verb k reply;
}

-- the handle that an open has opened
abbrev pub handle_opened : Outcome → ClientState → Option ℕ
handle_opened (Done (answers.Opened k)) t = Some t.last_number
handle_opened end t = None

-- an asynchronous call that has ended stands behind those that have ended before it, till its callback is given
abbrev pub ended_calls : CallState → Option Outcome → ClientState → PendingCalls → PendingCalls
ended_calls s None t p = p
ended_calls s (Some end) t p = if is_async (word_of_op s.op) then ended_in s.call (handle_opened end t) end p else p

-- the call is in hand as it is behind the step, unless the step has ended it
abbrev pub left_in_hand : Machine → CallState → Option Outcome → Machine
left_in_hand m s end = record m { in_hand = put_who m.in_hand (who s) (left end s) }

-- and where it has ended an asynchronous call, its client is to be told
abbrev pub stepped : Machine → CallState → Option Outcome → Machine
stepped m s end = with_pending s.call.actor (ended_calls s end (m.tables s.call.actor)) (left_in_hand m s end)

-- a step of the call that is in hand
abbrev pub step_of : Machine → Option CallState → Verb → Option ℕ → Option ℕ → StepReply → Option Outcome → Machine
step_of m None verb k r reply end = m
step_of m (Some s) verb k r reply end = let behind = changed m s verb k r reply in stepped behind (kept_behind m s behind.cluster verb k r reply) end

-- a call behind its beginning, with what drives it
abbrev pub started_call : CallId → Op → Kept → Driver → CallState
started_call call op kept driver = record { call = call; op = op; kept = kept; begun = driver; steps = []; created = None; snapshot = None }

-- a call goes on behind its beginning where this has not ended it; an asynchronous one where it is answered OK
abbrev pub goes_on : OpWord → Option Outcome → Bool
goes_on word None = true
goes_on word (Some (Done answer)) = is_async word
goes_on word (Some end) = false

-- it is in hand where it goes on, and something drives it
abbrev pub call_begun : Option Outcome → CallId → Op → Kept → Option CallState
call_begun end call op kept = if goes_on (word_of_op op) end then option_map (started_call call op kept) (driver_start call (asked op) kept) else None

-- the number of a handle, where there is one
abbrev pub number_of_handle : Option HandleView → ℕ
number_of_handle None = 0
number_of_handle (Some h) = h.handle

-- of which kind an asynchronous call is
abbrev pub kind_of : Op → AsyncKind
kind_of (ops.OpenAsync place invocation name flags a) = kinds.Open place
kind_of op = kinds.Sync

-- an asynchronous call, as it is kept till it is dispatched
abbrev pub async_call : CallId → Op → Option HandleView → AsyncCall
async_call call op h = record { call = call; kind = kind_of op; invocation = invocation_of op; handle = number_of_handle h }

-- what a beginning that is answered OK makes of the calls that are not dispatched: an asynchronous call is one of them, and a dispatch takes those away
-- that it gives
abbrev pub pending_begun : Option Outcome → CallId → Op → Option HandleView → PendingCalls → PendingCalls
pending_begun (Some (Done answer)) call (ops.OpenAsync place invocation name flags a) h p =
    with_begun (async_call call (ops.OpenAsync place invocation name flags a) h) p
pending_begun (Some (Done answer)) call (ops.SyncAsync place invocation) h p = with_begun (async_call call (ops.SyncAsync place invocation) h) p
pending_begun (Some (Done answer)) call (ops.Dispatch flags) h p = dispatched (given_number flags p) p
pending_begun end call op h p = p

-- a call has begun, and is in hand if it goes on
abbrev pub begun_call : Machine → CallId → Op → Option Outcome → Machine
begun_call m call op end = record m {
  next = put_actor m.next call.actor (m.next call.actor + 1);
  pending = put_actor m.pending call.actor (pending_begun end call op (asked_handle m call.actor op) (m.pending call.actor));
  in_hand =
      put_who m.in_hand (stepped_as call (word_of_op op))
      (call_begun end call op (kept_at_beginning m.cluster call.actor (asked_handle m call.actor op)));
}

-- a call has begun, and has ended an iteration where it ends one, and set the places of the opens whose callbacks it gives
abbrev pub after_beginning : Machine → CallId → Op → Option Outcome → Machine
after_beginning m call op end = with_tables call.actor (ended_at_once end (asked op) (m.pending call.actor)) (begun_call m call op end)

-- THE STATE AFTER A LABEL
abbrev pub after : Machine → Label → Machine
after m (labels.Began call op end details) = after_beginning m call op end
after m (labels.Stepped call op verb k r reply end details) = step_of m (m.in_hand (stepped_as call op)) verb k r reply end
after m (labels.Nodes n) = record m { cluster = brought_up n m.cluster }
after m (labels.Moved t) = with_record m (moved t m.cluster)
after m (labels.Failed r true) = failed_at r m
after m (labels.Failed r false) = m
after m (labels.Joined r (Some incarnation)) = joined_at r m
after m (labels.Joined r None) = m
after m (labels.Pulled k reply) = with_pulled m k reply (source_at m k)
after m (labels.Put k r reply) = with_put m k r reply (m.snapshots k) (target_at m k r)
after m label = m
