-- Worked examples of the machine, each by computation: which logs are runs, what a call answers, and what state is after it. A
-- state has a name where the next example goes on from it.
use Rattle.std.proofs.Common.{◌≡◌, ℕ, inl, List, [], ◌∷◌, ◌++◌, replicate, codes, pos, Option, Some, None, true, refl, sym, subst, ◌∙◌, arith}
use Rattle.std.specs.Prelude.{◌+◌, ◌≤◌, is_some, IsSomeAnd}
use Rattle.std.specs.Option.{option_map}
use Rattle.ckpt_types.specs.declared.ais_error.AisError.TheVariants as errors
use Rattle.ckpt_types.specs.declared.answers.Answer.TheVariants as answers
use Rattle.ckpt_types.specs.declared.answers.Cause.TheVariants.{Plain, Index, Holder, Count, Deadline}
use Rattle.ckpt_types.specs.declared.answers.Outcome.{Outcome}
use Rattle.ckpt_types.specs.declared.answers.Outcome.TheVariants.{Done, Refused}
use Rattle.ckpt_types.specs.declared.attributes.CreationAttributes.{CreationAttributes}
use Rattle.ckpt_types.specs.declared.calls.AsyncKind.TheVariants as kinds
use Rattle.ckpt_types.specs.declared.identities.ActorName.TheVariants.{Client}
use Rattle.ckpt_types.specs.declared.identities.CallId.{CallId}
use Rattle.ckpt_types.specs.declared.identities.Who.TheVariants.{Actor, Call}
use Rattle.ckpt_types.specs.declared.operation.Op.{Op}
use Rattle.ckpt_types.specs.declared.operation.Op.TheVariants as ops
use Rattle.ckpt_types.specs.declared.sections.SectionState.TheVariants.{Valid}
use Rattle.ckpt_types.specs.declared.update.IoElement.{IoElement}
use Rattle.ckpt_types.specs.declared.update.Update.TheVariants as updates
use Rattle.ckpt_types.specs.Asks.{asked, update_of}
use Rattle.ckpt_types.specs.Limits.{wr_all_replicas, checkpoint_read, checkpoint_write, checkpoint_create, release, major_max, minor_answered, end_of_time, dispatch_one}
use Rattle.ckpt_types.specs.Sections.{Section}
use Rattle.node_msgs.specs.declared.next.Next.{Next}
use Rattle.node_msgs.specs.declared.next.Next.TheVariants.{Event, End}
use Rattle.node_msgs.specs.declared.next.RecordStep.TheVariants as events
use Rattle.node_msgs.specs.declared.replies.Reply.TheVariants as replies
use Rattle.node_msgs.specs.declared.requests.Request.TheVariants as requests
use Rattle.node_msgs.specs.declared.steps.StepReply.TheVariants as words
use Rattle.node_msgs.specs.declared.steps.Verb.{Verb}
use Rattle.node_msgs.specs.declared.steps.Verb.TheVariants as verbs
use Rattle.node_msgs.specs.declared.details.Details.TheVariants as beside
use Rattle.run_labels.specs.declared.labels.Label.{Label}
use Rattle.run_labels.specs.declared.labels.Label.TheVariants as labels
use Rattle.ckpt_types.specs.OpWord.{word_of_op, stepped_as}
use Rattle.ckpt_types.specs.declared.words.OpWord.{OpWord}
use Rattle.call_dispatch.specs.PendingCalls.{no_pending}
use Rattle.client_handles.specs.declared.handle_view.HandleView.{HandleView}
use Rattle.cluster_record.specs.declared.entries.Entry.{Entry}
use Rattle.cluster_record.specs.DueOnce.{Leave}
use Rattle.cluster_record.specs.StepDone.{StepDone}
use Rattle.cluster_record.specs.RecordState.{RecordState, empty_record, named}
use Rattle.replica.specs.Replicas.{Replica, opened_replica}
use Rattle.ckpt_machine.specs.Drivers.{Driver, Once}
use Rattle.ckpt_machine.specs.Driving.{Kept, driver_start, driver_end, event_refusal}
use Rattle.ckpt_machine.specs.Guards.{Allowed, IsAllowedStep, Row}
use Rattle.ckpt_machine.specs.Holding.{HoldsOnlyWhatStands}
use Rattle.ckpt_machine.specs.Machine.{Machine, Applied, ReplicaState, CallState, empty_cluster, no_tables}
use Rattle.ckpt_machine.specs.Runs.{IsRun, last}
use Rattle.node_core.specs.Payloads.{no_payload, update_alone}
use Rattle.node_core.specs.Seen.{record_seen}
use Rattle.node_core.specs.Serving.{reply_at, details_at, replica_after}
use Rattle.ckpt_machine.specs.After.{after, with_tables}
use Rattle.ckpt_machine.specs.Due.{Told, IsDue, driver_of, due, kept_at_beginning, asked_handle}
use Rattle.ckpt_machine.specs.Seen.{seen_at}
use Rattle.ckpt_machine.specs.UpdateGuards.{CommitRow, StageRow}
use Rattle.ckpt_machine.proofs.Refusing.{by_update}
use Rattle.std.proofs.lemmas.Option.{same_Some}

-- ---- the words of the examples

-- c0's call of that number
abbrev c0 : ℕ → CallId
c0 n = record { actor = Client 0; number = n }

-- its Initialize on n0, by the last version and without callbacks
abbrev starts : Op
starts = ops.Client 0 (record { release = release; major = major_max; minor = minor_answered }) no_tables.callbacks

abbrev ck : List ℕ
ck = codes "ck"

-- a checkpoint of so many bytes, in so many sections of at most 16 bytes, that is not kept
abbrev pub sized : ℕ → ℕ → CreationAttributes
sized bytes sections = record { creation_flags = wr_all_replicas; checkpoint_size = bytes; retention_duration = pos 0; max_sections = sections; max_section_size = 16; max_section_id_size = 8 }

-- an open for reading and writing that makes what is not there, and one of what is there
abbrev makes : ℕ → List ℕ → CreationAttributes → Op
makes place name a = ops.Open place name (checkpoint_read + checkpoint_write + checkpoint_create) end_of_time (Some a)

abbrev opens : ℕ → List ℕ → Op
opens place name = ops.Open place name checkpoint_read end_of_time None

abbrev into : List ℕ → ℕ → List ℕ → IoElement
into id offset bytes = record { id = id; offset = offset; bytes = bytes }

abbrev writes : ℕ → List ℕ → Op
writes place bytes = ops.Write place (updates.Write (into [] 0 bytes ∷ []))

-- a call begins, and its steps
abbrev begins : ℕ → Op → Label
begins n op = labels.Began (c0 n) op None beside.Nothing

abbrev steps : ℕ → Op → Verb → Option ℕ → Option ℕ → Label
steps n op verb k r = labels.Stepped (c0 n) (word_of_op op) verb k r words.Ok None beside.Nothing

abbrev ends : ℕ → Op → Verb → Option ℕ → Option ℕ → Outcome → Label
ends n op verb k r end = labels.Stepped (c0 n) (word_of_op op) verb k r words.Ok (Some end) beside.Nothing

-- ---- a run, and no run

-- `nodes 1`, `client c0 n0 B.2.2 none`, `unlink c0 'ck`
abbrev comes_up : Label
comes_up = labels.Nodes 1

abbrev example_enters : Label
example_enters = ends 1 starts verbs.Enter None (Some 0) (Done answers.Version)

abbrev example_refused : Label
example_refused = labels.Stepped (c0 2) (word_of_op (ops.Unlink ck)) verbs.Look None None words.Refused (Some (Refused errors.NotExist Plain)) beside.Nothing

abbrev five : List Label
five = comes_up ∷ begins 1 starts ∷ example_enters ∷ begins 2 (ops.Unlink ck) ∷ example_refused ∷ []

-- the call that c0 has in hand
abbrev in_hand : Machine → Option CallState
in_hand m = m.in_hand (Actor (Client 0))

-- what drives a call, or a leaving where nothing does
abbrev driver_or : Option Driver → Driver
driver_or None = Once Leave
driver_or (Some x) = x

-- a call behind its beginning, with what it keeps
abbrev begun_state : CallId → Op → Kept → CallState
begun_state call op kept = record { call = call; op = op; kept = kept; begun = driver_or (driver_start call (asked op) kept); steps = []; created = None; snapshot = None }

abbrev example_begun : Machine → ℕ → Op → CallState
example_begun m n op = begun_state (c0 n) op (kept_at_beginning m.cluster (Client 0) (asked_handle m (Client 0) op))

abbrev example_started : Machine
example_started = last (comes_up ∷ begins 1 starts ∷ [])

abbrev example_ask_of : Machine
example_ask_of = last (comes_up ∷ begins 1 starts ∷ example_enters ∷ begins 2 (ops.Unlink ck) ∷ [])

pub five_labels_are_a_run : IsRun five
five_labels_are_a_run = (
  (omega arith, omega arith, refl),
  (omega arith, omega arith, refl),
  (
    first_may_begin,
    first_begins,
    (
      record { state = example_begun (last (comes_up ∷ [])) 1 starts; in_hand = refl; call_is = refl; word = refl; own = tt; row = ((_, _, refl, (record { up = refl; not_live = refl; few = omega arith }, refl)), refl) },
      record { state = example_begun (last (comes_up ∷ [])) 1 starts; in_hand = refl; call_is = refl; word = refl; done = record { verb = refl; ckpt = refl; node = refl; details = refl; answer = inl (refl, refl) } },
      (
        then_may_begin,
        then_begins,
        (
          record { state = example_begun (last (comes_up ∷ begins 1 starts ∷ example_enters ∷ [])) 2 (ops.Unlink ck); in_hand = refl; call_is = refl; word = refl; own = tt; row = (refl, refl, refl, refl) },
          record { state = example_begun (last (comes_up ∷ begins 1 starts ∷ example_enters ∷ [])) 2 (ops.Unlink ck); in_hand = refl; call_is = refl; word = refl; done = refl },
          tt,
        ),
      ),
    ),
  ),
) where
  first_begins : IsDue (last (comes_up ∷ [])) (begins 1 starts)
  first_begins = record { asker = omega arith; built = omega arith; number = refl; none_in_hand = refl; may = (refl, refl); answer = inl refl; told = refl }

  first_may_begin : Allowed (last (comes_up ∷ [])) (begins 1 starts)
  first_may_begin = record { asker = omega arith; built = omega arith; number = refl; none_in_hand = refl; may = (refl, refl); row = (record { version = refl; handle = refl; callback = refl; flags = refl; arguments = refl; access = refl; operation = refl }, refl); told = refl }

  then_begins : IsDue (last (comes_up ∷ begins 1 starts ∷ example_enters ∷ [])) (begins 2 (ops.Unlink ck))
  then_begins = record { asker = omega arith; built = tt; number = refl; none_in_hand = refl; may = tt; answer = inl refl; told = refl }

  then_may_begin : Allowed (last (comes_up ∷ begins 1 starts ∷ example_enters ∷ [])) (begins 2 (ops.Unlink ck))
  then_may_begin = record { asker = omega arith; built = tt; number = refl; none_in_hand = refl; may = tt; row = (record { version = refl; handle = refl; callback = refl; flags = refl; arguments = refl; access = refl; operation = refl }, refl); told = refl }

-- with its step in front of its beginning
pub a_step_before_its_call_is_no_run : IsRun (comes_up ∷ example_enters ∷ begins 1 starts ∷ begins 2 (ops.Unlink ck) ∷ example_refused ∷ []) → ⊥
a_step_before_its_call_is_no_run run = let none : None ≡ Some run.2.0.state = run.2.0.in_hand in cc

-- with the second call in front of the first, which has not ended
pub two_calls_at_once_are_no_run : IsRun (comes_up ∷ begins 1 starts ∷ begins 2 (ops.Unlink ck) ∷ example_enters ∷ example_refused ∷ []) → ⊥
two_calls_at_once_are_no_run run = let some : Some (example_begun (last (comes_up ∷ [])) 1 starts) ≡ None = run.2.2.0.none_in_hand in cc

-- ---- a checkpoint that is made and written: `open c0 h0 'ck 7 end 1 16 0 1 16 8`, `write c0 h0 x 0 'abc`

abbrev example_opening : Op
example_opening = makes 0 ck (sized 16 1)

abbrev log_opened : List Label
log_opened = comes_up ∷ begins 1 starts ∷ example_enters ∷ begins 2 example_opening ∷ steps 2 example_opening verbs.Create (Some 1) None ∷ steps 2 example_opening verbs.Reserve (Some 1) (Some 0) ∷ ends 2 example_opening verbs.Finish (Some 1) None (Done (answers.Opened 1)) ∷ []

abbrev example_opened : Machine
example_opened = last log_opened

abbrev section : List ℕ → Section
section bytes = record { id = []; bytes = bytes; expiration = end_of_time; state = Valid; last_update = pos 0 }

abbrev empty_replica : ReplicaState
empty_replica = record { sections = section [] ∷ []; effects = []; generation = 1; slot = None; marks = None }

-- what a step of c0 on n0, at checkpoint 1, tells that ends its call
abbrev told : Verb → Told
told verb = record { verb = verb; ckpt = Some 1; node = Some 0; reply = words.Ok; end = Some (Done answers.Nothing); details = beside.Nothing }

pub made_with_its_one_section : example_opened.replicas 1 0 ≡ Some empty_replica
made_with_its_one_section = refl

pub opened_at_its_place : asked_handle example_opened (Client 0) (ops.Close 0) ≡ Some (record { id = 1; flags = record { read = true; write = true; create = true }; creation_flags = wr_all_replicas; handle = 1 })
opened_at_its_place = refl

abbrev log_staged : List Label
log_staged = begins 3 (writes 0 (codes "abc")) ∷ steps 3 (writes 0 (codes "abc")) verbs.Stage (Some 1) (Some 0) ∷ []

abbrev log_written : List Label
log_written = log_staged ++ ends 3 (writes 0 (codes "abc")) verbs.Commit (Some 1) (Some 0) (Done answers.Nothing) ∷ []

abbrev staged_once : Machine
staged_once = last (log_opened ++ log_staged)

abbrev example_written : Machine
example_written = last (log_opened ++ log_written)

abbrev sections_of : Machine → Option (List Section)
sections_of m = option_map (λ (x : ReplicaState). x.sections) (m.replicas 1 0)

pub a_stage_leaves_the_sections : sections_of staged_once ≡ Some (section [] ∷ [])
a_stage_leaves_the_sections = refl

pub a_commit_writes_them : example_written.replicas 1 0 ≡ Some (record { sections = section (codes "abc") ∷ []; effects = Applied (c0 3) (updates.Write (into [] 0 (codes "abc") ∷ [])) (pos 0) ∷ []; generation = 1; slot = None; marks = None })
a_commit_writes_them = refl

abbrev before_stage : Machine
before_stage = last (log_opened ++ begins 3 (writes 0 (codes "abc")) ∷ [])

abbrev writing : CallState
writing = example_begun example_opened 3 (writes 0 (codes "abc"))

-- what an allowed step asks of the state, by the call that is in hand
its_row : (m : Machine) (s : CallState) (word : OpWord) (t : Told) → m.in_hand (stepped_as s.call word) ≡ Some s → IsAllowedStep m s.call word t → Row m s t.verb t
its_row m s word t here allowed = subst (λ s. Row m s t.verb t) (sym (same_Some s allowed.state (sym here ∙ allowed.in_hand))) allowed.row

-- a commit before its stage: there is no slot
pub a_commit_before_its_stage_is_not_allowed : Allowed before_stage (ends 3 (writes 0 (codes "abc")) verbs.Commit (Some 1) (Some 0) (Done answers.Nothing)) → ⊥
a_commit_before_its_stage_is_not_allowed allowed =
    by_update before_stage writing (λ update ends. CommitRow before_stage (c0 3) update ends 1 0 words.Ok (Some (Done answers.Nothing)) beside.Nothing)
    (its_row before_stage writing (word_of_op writing.op) (told verbs.Commit) refl allowed)
    (λ update ends row. let none : None ≡ Some row.1.slot = row.1.staged in cc none)

-- an answer with its stage
pub an_answer_with_its_stage_is_not_allowed : Allowed before_stage (ends 3 (writes 0 (codes "abc")) verbs.Stage (Some 1) (Some 0) (Done answers.Nothing)) → ⊥
an_answer_with_its_stage_is_not_allowed allowed =
    by_update before_stage writing (λ update ends. StageRow before_stage writing update 1 0 words.Ok (Some (Done answers.Nothing)))
    (its_row before_stage writing (word_of_op writing.op) (told verbs.Stage) refl allowed).0
    (λ update ends row. let none : Some (Done answers.Nothing) ≡ None = row.1 in cc none)

-- ---- a status after a write and a setting of the retention: `retain c0 h0 5`, `status c0 h0`

abbrev example_retained : Machine
example_retained = last (log_opened ++ log_written ++ begins 4 (ops.Retain 0 (pos 5)) ∷ ends 4 (ops.Retain 0 (pos 5)) verbs.Retain (Some 1) None (Done answers.Nothing) ∷ [])

pub status_after_both : details_at (requests.Status 1) no_payload (record_seen example_retained.cluster 1 0) (seen_at example_retained 1 0)
    ≡ beside.Status (record { attributes = record (sized 16 1) { retention_duration = pos 5 }; number_of_sections = 1; memory_used = 3 })
status_after_both = refl

-- ---- an unlink and the last close: `unlink c0 'ck`, `close c0 h0`

abbrev log_unlinked : List Label
log_unlinked = begins 4 (ops.Unlink ck) ∷ ends 4 (ops.Unlink ck) verbs.Unlink (Some 1) None (Done answers.Nothing) ∷ []

abbrev example_unlinked_state : Machine
example_unlinked_state = last (log_opened ++ log_written ++ log_unlinked)

pub an_unlinked_checkpoint_stays_open : sections_of example_unlinked_state ≡ Some (section (codes "abc") ∷ [])
an_unlinked_checkpoint_stays_open = refl

abbrev pub example_gone : Machine
example_gone = last (log_opened ++ log_written ++ log_unlinked ++ begins 5 (ops.Close 0) ∷ ends 5 (ops.Close 0) verbs.Close (Some 1) None (Done answers.Nothing) ∷ [])

pub its_last_close_deletes_it : example_gone.cluster.entries ≡ []
its_last_close_deletes_it = refl

pub with_its_replica : example_gone.replicas 1 0 ≡ None
with_its_replica = refl

pub and_its_handle : (example_gone.tables (Client 0)).handles ≡ []
and_its_handle = refl

pub its_place_stands_for_none : asked_handle example_gone (Client 0) (ops.Close 0) ≡ None
its_place_stands_for_none = refl

-- and so a node that kept the replica would show no state
pub a_replica_of_what_is_gone_is_not_held : HoldsOnlyWhatStands example_gone.cluster ((opened_replica 1 (sized 16 1) (pos 0) ∷ []) ∷ []) → ⊥
a_replica_of_what_is_gone_is_not_held holds = (holds.each 0 (opened_replica 1 (sized 16 1) (pos 0)) (0, omega arith, refl)).stands

-- nor would one with two replicas of a checkpoint
pub two_replicas_of_one_are_not_held : HoldsOnlyWhatStands example_opened.cluster ((opened_replica 1 (sized 16 1) (pos 0) ∷ opened_replica 1 (sized 16 1) (pos 0) ∷ []) ∷ []) → ⊥
two_replicas_of_one_are_not_held holds = let two : 2 ≤ 1 = holds.once 0 1 in omega (arith, two)

-- ---- what the record and the tables decide

-- what is next for c0's third call
abbrev example_next : Machine → Op → Next
example_next m op = due m (example_begun m 3 op)

abbrev a_handle : HandleView
a_handle = record { id = 1; flags = record { read = true; write = true; create = true }; creation_flags = wr_all_replicas; handle = 1 }

-- with so many handles of a client
abbrev with_handles_of : ℕ → ℕ → Machine → Machine
with_handles_of c n m = with_tables (Client c) (λ t. record t { handles = replicate n a_handle }) m

-- opened, with so many of c0
abbrev with_handles : ℕ → Machine
with_handles n = with_handles_of 0 n example_opened

pub the_32nd_handle_is_opened : example_next (with_handles 31) (opens 32 ck) ≡ Event events.Open
the_32nd_handle_is_opened = refl

pub the_33rd_handle_is_refused : example_next (with_handles 32) (opens 32 ck) ≡ End (Refused errors.NoResources (Count 32))
the_33rd_handle_is_refused = refl

-- opened, with so many checkpoints
abbrev an_entry : Entry
an_entry = record { identity = 1; name = Some ck; attributes = sized 16 1; retention = pos 0; made = pos 0; making = None; complete = 1 ∷ 0 ∷ 0 ∷ 0 ∷ 0 ∷ 0 ∷ 0 ∷ 0 ∷ []; active = Some 0; generation = 1; references = replicate 100 1; idle = pos 0; hold = None }

abbrev with_entries : ℕ → Machine
with_entries n = record example_opened { cluster = record example_opened.cluster { entries = replicate n an_entry } }

pub the_16th_checkpoint_is_made : example_next (with_entries 15) (makes 1 (codes "no") (sized 16 1)) ≡ Event events.Create
the_16th_checkpoint_is_made = refl

pub the_17th_checkpoint_is_refused : example_next (with_entries 16) (makes 1 (codes "no") (sized 16 1)) ≡ End (Refused errors.NoResources (Count 16))
the_17th_checkpoint_is_refused = refl

pub with_32_handles_too_their_count_is_told : example_next (with_handles_of 0 32 (with_entries 16)) (makes 1 (codes "no") (sized 16 1)) ≡ End (Refused errors.NoResources (Count 32))
with_32_handles_too_their_count_is_told = refl

abbrev with_clients : ℕ → Machine
with_clients n = record empty_cluster { cluster = record empty_record { clients = replicate n (record { client = 7; node = 0; incarnation = 1; initialize = 1 }) } }

pub the_65th_client_is_refused : example_next (with_clients 64) starts ≡ End (Refused errors.NoResources (Count 64))
the_65th_client_is_refused = refl

-- `at 5`, and an open with the timeout 0; of a name that is not there, and not to be made, NOT_EXIST comes before
pub a_timeout_of_0_is_reached : example_next (last (log_opened ++ labels.Moved (pos 5) ∷ [])) (ops.Open 1 ck checkpoint_read (pos 0) None) ≡ End (Refused errors.Timeout (Deadline (pos 5) (pos 5)))
a_timeout_of_0_is_reached = refl

pub not_exist_comes_before_timeout : example_next (last (log_opened ++ labels.Moved (pos 5) ∷ [])) (ops.Open 1 (codes "no") checkpoint_read (pos 0) None) ≡ End (Refused errors.NotExist Plain)
not_exist_comes_before_timeout = refl

pub exist_for_other_attributes : example_next example_opened (makes 1 ck (sized 15 1)) ≡ End (Refused errors.Exist Plain)
exist_for_other_attributes = refl

-- ---- an update that is refused: `write c0 h0 'a 0 'X 'b 0 'Y 'c 0 'Z` over sections a and b

abbrev named_section : List ℕ → List ℕ → Section
named_section id bytes = record { id = id; bytes = bytes; expiration = end_of_time; state = Valid; last_update = pos 0 }

abbrev a_and_b : Replica
a_and_b = record { ckpt = 1; attributes = sized 16 2; sections = named_section (codes "a") (codes "aa") ∷ named_section (codes "b") (codes "bb") ∷ []; count = 2; generation = 1; slot = None; marks = None }

abbrev three : Op
three = ops.Write 0 (updates.Write (into (codes "a") 0 (codes "X") ∷ into (codes "b") 0 (codes "Y") ∷ into (codes "c") 0 (codes "Z") ∷ []))

pub the_replica_refuses_with_the_index : reply_at (requests.Stage (c0 3) 1 (pos 0)) (update_alone (update_of three)) (record_seen example_opened.cluster 1 0) (Some a_and_b) ≡ replies.Refused errors.NotExist 2
the_replica_refuses_with_the_index = refl

pub it_stays_as_it_was : replica_after (requests.Stage (c0 3) 1 (pos 0)) (update_alone (update_of three)) (record_seen example_opened.cluster 1 0) a_and_b ≡ a_and_b
it_stays_as_it_was = refl

pub the_call_tells_the_index : (R : RecordState) (d : StepDone) (x : Driver) → driver_end R three d (replies.Refused errors.NotExist 2) x ≡ Some (Refused errors.NotExist (Index 2))
the_call_tells_the_index R d x = refl

-- ---- two calls in hand: c0 makes 'ck for 3 nanoseconds at most, and c1 opens it

abbrev c1 : ℕ → CallId
c1 n = record { actor = Client 1; number = n }

abbrev for_3 : Op
for_3 = ops.Open 0 ck (checkpoint_read + checkpoint_write + checkpoint_create) (pos 3) (Some (sized 16 1))

abbrev log_making : List Label
log_making = comes_up ∷ begins 1 starts ∷ example_enters ∷ labels.Began (c1 1) starts None beside.Nothing ∷ labels.Stepped (c1 1) (word_of_op starts) verbs.Enter None (Some 0) words.Ok (Some (Done answers.Version)) beside.Nothing ∷ begins 2 for_3 ∷ steps 2 for_3 verbs.Create (Some 1) None ∷ []

abbrev in_the_making : Machine
in_the_making = last log_making

-- c1's call, begun then or later
abbrev c1_begins : Machine → Op → CallState
c1_begins m op = begun_state (c1 2) op (kept_at_beginning m.cluster (Client 1) (asked_handle m (Client 1) op))

pub of_what_is_in_the_making_the_record_is_asked : due in_the_making (c1_begins in_the_making (opens 0 ck)) ≡ Event events.Open
of_what_is_in_the_making_the_record_is_asked = refl

pub the_record_refuses_with_the_maker : event_refusal in_the_making.cluster events.Open (driver_of (c1_begins in_the_making (opens 0 ck))) ≡ Some (Refused errors.TryAgain (Holder (c0 2)))
the_record_refuses_with_the_maker = refl

-- that comes before the attributes and the limits, and behind the deadline
pub with_other_attributes_too : (due in_the_making (c1_begins in_the_making (makes 0 ck (sized 15 1))) ≡ Event events.Open) × (event_refusal in_the_making.cluster events.Open (driver_of (c1_begins in_the_making (makes 0 ck (sized 15 1)))) ≡ Some (Refused errors.TryAgain (Holder (c0 2))))
with_other_attributes_too = (refl, refl)

pub with_32_handles_too : due (with_handles_of 1 32 in_the_making) (c1_begins in_the_making (opens 0 ck)) ≡ Event events.Open
with_32_handles_too = refl

pub timeout_comes_before_try_again : due in_the_making (c1_begins in_the_making (ops.Open 0 ck checkpoint_read (pos 0) None)) ≡ End (Refused errors.Timeout (Deadline (pos 0) (pos 0)))
timeout_comes_before_try_again = refl

abbrev both_in_hand : Machine
both_in_hand = last (log_making ++ labels.Began (c1 2) (opens 0 ck) None beside.Nothing ∷ [])

abbrev held_open : Label
held_open = labels.Stepped (c1 2) (word_of_op (opens 0 ck)) verbs.Open (Some 1) None words.Refused (Some (Refused errors.TryAgain (Holder (c0 2)))) beside.Nothing

pub an_open_that_meets_a_making_is_due : IsDue both_in_hand held_open
an_open_that_meets_a_making_is_due = record { state = c1_begins in_the_making (opens 0 ck); in_hand = refl; call_is = refl; word = refl; done = record { verb = refl; ckpt = refl; node = refl; details = refl; answer = (refl, refl) } }

pub it_is_allowed : Allowed both_in_hand held_open
it_is_allowed = record { state = c1_begins in_the_making (opens 0 ck); in_hand = refl; call_is = refl; word = refl; own = tt; row = ((ck, None, record { place = _; flags = _; timeout = _; asks = refl }, (c0 2, record { there = (refl, refl); in_time = refl; live = refl; another = refl; answer = refl })), refl) }

-- it does not hold it once the checkpoint is made
pub what_is_made_is_not_held : Allowed (last (log_opened ++ begins 3 (opens 1 ck) ∷ [])) (labels.Stepped (c0 3) (word_of_op (opens 1 ck)) verbs.Open (Some 1) None words.Refused (Some (Refused errors.TryAgain (Holder (c0 2)))) beside.Nothing) → ⊥
what_is_made_is_not_held allowed =
    let m = last (log_opened ++ begins 3 (opens 1 ck) ∷ []) in
    let held = (its_row m (example_begun example_opened 3 (opens 1 ck)) (word_of_op (opens 1 ck)) (record { verb = verbs.Open; ckpt = Some 1; node = None; reply = words.Refused; end = Some (Refused errors.TryAgain (Holder (c0 2))); details = beside.Nothing }) refl allowed).0 in
    let asks = held.2.asks in
    let name : held.0 ≡ ck = cc asks in
    let none : None ≡ Some held.3.0 = (subst (λ name. IsSomeAnd (named name m.cluster.entries) (λ e. (e.identity ≡ 1) × (e.making ≡ Some held.3.0))) name held.3.1.there).1 in
    cc none

pub the_making_stays : ((after both_in_hand held_open).cluster ≡ both_in_hand.cluster) × ((after both_in_hand held_open).in_hand (Actor (Client 0)) ≡ both_in_hand.in_hand (Actor (Client 0))) × ((after both_in_hand held_open).in_hand (Actor (Client 1)) ≡ None)
the_making_stays = (refl, refl, refl)

-- ---- a making whose deadline is reached by a moment that is set in between

abbrev log_reserved : List Label
log_reserved = log_making ++ steps 2 for_3 verbs.Reserve (Some 1) (Some 0) ∷ []

abbrev state_of : Machine → Option CallState → CallState
state_of m None = example_begun m 2 for_3
state_of m (Some s) = s

abbrev maker_in : Machine → CallState
maker_in m = state_of m (in_hand m)

abbrev at : ℕ → Machine
at t = last (log_reserved ++ labels.Moved (pos t) ∷ [])

pub before_its_deadline_it_is_finished : due (at 2) (maker_in (at 2)) ≡ Event events.Finish
before_its_deadline_it_is_finished = refl

pub at_its_deadline_it_ends : due (at 3) (maker_in (at 3)) ≡ End (Refused errors.Timeout (Deadline (pos 3) (pos 3)))
at_its_deadline_it_ends = refl

-- one that was refused memory is undone before its deadline, and ends with TIMEOUT from it on
abbrev refused_at : ℕ → Machine
refused_at t = last (log_making ++ labels.Stepped (c0 2) (word_of_op for_3) verbs.Reserve (Some 1) (Some 0) words.Memory None beside.Nothing ∷ labels.Moved (pos t) ∷ [])

pub timeout_comes_before_the_undoing : (due (refused_at 2) (maker_in (refused_at 2)) ≡ Event events.Undo) × (due (refused_at 3) (maker_in (refused_at 3)) ≡ End (Refused errors.Timeout (Deadline (pos 3) (pos 3))))
timeout_comes_before_the_undoing = (refl, refl)

abbrev too_late : Label
too_late = labels.Stepped (c0 2) (word_of_op for_3) verbs.Look None None words.Refused (Some (Refused errors.Timeout (Deadline (pos 3) (pos 5)))) beside.Nothing

pub a_late_making_is_refused : IsDue (at 5) too_late × Allowed (at 5) too_late
a_late_making_is_refused = (
  record { state = maker_in (at 5); in_hand = refl; call_is = refl; word = refl; done = refl },
  record { state = maker_in (at 5); in_hand = refl; call_is = refl; word = refl; own = tt; row = (refl, refl, (tt, refl, refl, refl), refl) },
)

-- in that step its entry goes with its name, and what was reserved for it
pub it_was_reserved : (at 5).reserved 1 0 ≡ Some 1
it_was_reserved = refl

pub and_is_undone : ((after (at 5) too_late).cluster ≡ record (at 5).cluster { entries = [] }) × ((after (at 5) too_late).reserved 1 0 ≡ None) × ((after (at 5) too_late).in_hand (Actor (Client 0)) ≡ None)
and_is_undone = (refl, refl, refl)

-- ---- an asynchronous open: `client c0 n0 B.2.2 both`, `openasync c0 h0 7 'ck 7 1 16 0 1 16 8`, `dispatch c0 1`

abbrev registers : Op
registers = ops.Client 0 (record { release = release; major = major_max; minor = minor_answered }) (record { opens = true; syncs = true })

abbrev makes_alone : Op
makes_alone = ops.OpenAsync 0 7 ck (checkpoint_read + checkpoint_write + checkpoint_create) (Some (sized 16 1))

abbrev log_alone : List Label
log_alone = comes_up ∷ begins 1 registers ∷ ends 1 registers verbs.Enter None (Some 0) (Done answers.Version) ∷ labels.Began (c0 2) makes_alone (Some (Done answers.Nothing)) beside.Nothing ∷ []

abbrev goes_alone : Machine
goes_alone = last log_alone

pub it_is_in_hand_under_its_own_name : is_some (goes_alone.in_hand (Call (c0 2))) ≡ true
it_is_in_hand_under_its_own_name = refl

pub its_client_waits_for_nothing : goes_alone.in_hand (Actor (Client 0)) ≡ None
its_client_waits_for_nothing = refl

pub another_call_may_begin : IsDue goes_alone (begins 3 (ops.Unlink ck))
another_call_may_begin = record { asker = omega arith; built = tt; number = refl; none_in_hand = refl; may = tt; answer = inl refl; told = refl }

-- once it has ended
abbrev log_ended : List Label
log_ended = log_alone ++ steps 2 makes_alone verbs.Create (Some 1) None ∷ steps 2 makes_alone verbs.Reserve (Some 1) (Some 0) ∷ ends 2 makes_alone verbs.Finish (Some 1) None (Done (answers.Opened 1)) ∷ []

abbrev ended_alone : Machine
ended_alone = last log_ended

pub it_is_in_hand_no_more : ended_alone.in_hand (Call (c0 2)) ≡ None
it_is_in_hand_no_more = refl

pub its_callback_is_to_be_given : ended_alone.pending (Client 0) ≡ record { unfinished = []; finished = record { asked = record { call = c0 2; kind = kinds.Open 0; invocation = 7; handle = 1 }; outcome = Done (answers.Opened 1) } ∷ [] }
its_callback_is_to_be_given = refl

pub its_place_stands_for_none_yet : asked_handle ended_alone (Client 0) (ops.Close 0) ≡ None
its_place_stands_for_none_yet = refl

-- and its callback is given
abbrev dispatches : Label
dispatches = labels.Began (c0 3) (ops.Dispatch dispatch_one) (Some (Done (answers.Dispatched (record { given = 1; left = 0 })))) (beside.Callbacks (record { kind = kinds.Open 0; invocation = 7; outcome = Done (answers.Opened 1) } ∷ []))

pub a_dispatch_gives_it : IsDue ended_alone dispatches
a_dispatch_gives_it = record { asker = omega arith; built = tt; number = refl; none_in_hand = refl; may = tt; answer = inl refl; told = refl }

pub then_its_place_stands_for_the_handle : asked_handle (after ended_alone dispatches) (Client 0) (ops.Close 0) ≡ Some a_handle
then_its_place_stands_for_the_handle = refl

pub and_nothing_is_to_be_given : (after ended_alone dispatches).pending (Client 0) ≡ no_pending
and_nothing_is_to_be_given = refl

-- where its client leaves before it has ended, it goes, and what it is making
abbrev leaves : Machine
leaves = last (log_alone ++ steps 2 makes_alone verbs.Create (Some 1) None ∷ begins 3 ops.Finalize ∷ ends 3 ops.Finalize verbs.Leave None None (Done answers.Nothing) ∷ [])

pub it_goes_with_its_client : (leaves.in_hand (Call (c0 2)) ≡ None) × (leaves.pending (Client 0) ≡ no_pending) × (leaves.cluster.entries ≡ [])
it_goes_with_its_client = (refl, refl, refl)
