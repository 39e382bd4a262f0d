-- Worked examples of what a call may answer at its beginning, and of words, each by computation; and beside each an answer that is not allowed.
use Rattle.std.proofs.Common.{◌≡◌, ℕ, ◌<◌, ◌≤◌, [], ◌∷◌, replicate, Option, Some, None, true, false, codes, pos, negsuc, refl, sym, ◌∙◌, arith}
use Rattle.std.proofs.lemmas.Bool.{agree_below_at, true≢false, false≢true}
use Rattle.ckpt_types.specs.declared.ais_error.AisError.{AisError}
use Rattle.ckpt_types.specs.declared.ais_error.AisError.TheVariants as errors
use Rattle.ckpt_types.specs.declared.answers.Answer.TheVariants as answers
use Rattle.ckpt_types.specs.declared.answers.Cause.TheVariants.{Plain, Count}
use Rattle.ckpt_types.specs.declared.answers.Outcome.{Outcome}
use Rattle.ckpt_types.specs.declared.answers.Outcome.TheVariants.{Done, Refused, NoMemory}
use Rattle.ckpt_types.specs.declared.calls.AsyncKind.TheVariants as kinds
use Rattle.ckpt_types.specs.declared.identities.ActorName.TheVariants.{Client, Node}
use Rattle.ckpt_types.specs.declared.identities.Who.TheVariants.{Actor, Call}
use Rattle.ckpt_types.specs.declared.operation.Op.TheVariants as ops
use Rattle.ckpt_types.specs.declared.update.Update.TheVariants as updates
use Rattle.ckpt_types.specs.Limits.{wr_all_replicas, wr_active_replica, checkpoint_read, checkpoint_create, dispatch_one, dispatch_all, sections_any, release, major_max, minor_answered, end_of_time, nodes_max}
use Rattle.call_dispatch.specs.PendingCalls.{PendingCalls, no_pending}
use Rattle.call_dispatch.specs.declared.async_call.AsyncCall.{AsyncCall}
use Rattle.node_msgs.specs.declared.details.Details.TheVariants as beside
use Rattle.run_labels.specs.declared.labels.Label.{Label}
use Rattle.run_labels.specs.declared.labels.Label.TheVariants as labels
use Rattle.run_labels.specs.declared.words.LineWord.TheVariants as linewords
use Rattle.ckpt_types.specs.declared.words.OpWord.TheVariants as opwords
use Rattle.run_labels.specs.declared.words.Said.{Said}
use Rattle.run_labels.specs.declared.words.Said.TheVariants.{Busy, Idle, Live, Down}
use Rattle.client_handles.specs.declared.handle_view.HandleView.{HandleView}
use Rattle.cluster_record.specs.RecordState.{is_up, brought_up}
use Rattle.ckpt_types.specs.Asks.{Ask}
use Rattle.ckpt_types.specs.Asks as asks
use Rattle.ckpt_machine.specs.BeginRows.{BeginRow}
use Rattle.ckpt_machine.specs.Beginning.{Standing, callbacks_told}
use Rattle.ckpt_machine.specs.Guards.{Allowed}
use Rattle.ckpt_machine.specs.Machine.{Machine, empty_cluster}

-- ---- the words of the examples

abbrev refused_plainly : AisError → Option Outcome
refused_plainly error = Some (Refused error Plain)

abbrev done_at_once : Option Outcome
done_at_once = Some (Done answers.Nothing)

-- what a place stands for: no handle, or a handle that was opened for reading, or for writing
abbrev no_handle : Option HandleView
no_handle = None

abbrev for_reading : Option HandleView
for_reading = Some (record { id = 1; flags = record { read = true; write = false; create = false }; creation_flags = wr_all_replicas; handle = 1 })

abbrev for_writing : Option HandleView
for_writing = Some (record { id = 1; flags = record { read = false; write = true; create = false }; creation_flags = wr_all_replicas; handle = 1 })

-- a client that is live and has registered both callbacks, with no asynchronous call; and one that is not live
abbrev a_client : Option HandleView → Standing
a_client h = record { live = true; handle = h; callbacks = record { opens = true; syncs = true }; pending = no_pending }

abbrev no_client : Option HandleView → Standing
no_client h = record { live = false; handle = h; callbacks = record { opens = false; syncs = false }; pending = no_pending }

-- an Initialize on n0 by a major version, an open for flags, a write of no element, a deletion, and the start of an iteration
abbrev an_initialize : ℕ → Ask
an_initialize major = asks.Enter 0 (record { release = release; major = major; minor = minor_answered }) (record { opens = false; syncs = false })

abbrev an_open : ℕ → Ask
an_open flags = asks.Open 0 (codes "ck") flags (Some end_of_time) None

abbrev writes_nothing : Ask
writes_nothing = asks.Change 0 (updates.Write [])

abbrev deletes : Ask
deletes = asks.Change 0 (updates.Delete (codes "s"))

abbrev an_iteration : ℕ → Ask
an_iteration chosen = asks.Iterate 0 0 chosen (pos 0)

-- a handle for writing of a checkpoint whose updates go to the active alone, and a synchronisation
abbrev on_the_active : Option HandleView
on_the_active = Some (record { id = 1; flags = record { read = false; write = true; create = false }; creation_flags = wr_active_replica; handle = 1 })

abbrev synchronises : ℕ → Ask
synchronises timeout = asks.Synchronize 0 (Some (pos timeout))

-- an asynchronous open for flags, and an asynchronous synchronisation
abbrev opens_alone : ℕ → Ask
opens_alone flags = asks.Open 0 (codes "ck") flags None None

abbrev synchronises_alone : Ask
synchronises_alone = asks.Synchronize 0 None

-- a client that is live and has registered no callback
abbrev without_callbacks : Option HandleView → Standing
without_callbacks h = record { live = true; handle = h; callbacks = record { opens = false; syncs = false }; pending = no_pending }

-- the call of that number, by which its client knows it: an open, or a synchronisation
abbrev open_of : ℕ → AsyncCall
open_of number = record { call = record { actor = Client 0; number = number }; kind = kinds.Open 0; invocation = number; handle = 1 }

abbrev synchronisation_of : ℕ → AsyncCall
synchronisation_of number = record { call = record { actor = Client 0; number = number }; kind = kinds.Sync; invocation = number; handle = 1 }

-- a client that has so many opens under way; and one of whose calls a synchronisation has ended, and behind it an open
abbrev with_opens : ℕ → Option HandleView → Standing
with_opens count h = record { live = true; handle = h; callbacks = record { opens = true; syncs = true }; pending = record { unfinished = replicate count (open_of 2); finished = [] } }

abbrev two_ended : PendingCalls
two_ended = record { unfinished = open_of 6 ∷ []; finished = record { asked = synchronisation_of 5; outcome = Done answers.Nothing } ∷ record { asked = open_of 4; outcome = Done (answers.Opened 1) } ∷ [] }

abbrev with_two_ended : Standing
with_two_ended = record { live = true; handle = no_handle; callbacks = record { opens = true; syncs = true }; pending = two_ended }

-- what a dispatch gives and leaves
abbrev gives : ℕ → ℕ → Option Outcome
gives given left = Some (Done (answers.Dispatched (record { given = given; left = left })))

-- ---- VERSION

pub version_of_an_initialize : BeginRow (no_client no_handle) (an_initialize 3) (refused_plainly errors.Version)
version_of_an_initialize = refl

pub not_of_a_version_that_is_spoken : BeginRow (no_client no_handle) (an_initialize major_max) (refused_plainly errors.Version) → ⊥
not_of_a_version_that_is_spoken row = false≢true row

pub an_initialize_asks_for_no_handle : BeginRow (no_client no_handle) (an_initialize major_max) (refused_plainly errors.BadHandle) → ⊥
an_initialize_asks_for_no_handle row = false≢true row.1

-- ---- BAD_HANDLE, before any other

pub bad_handle_of_no_client : BeginRow (no_client no_handle) (an_open 0) (refused_plainly errors.BadHandle)
bad_handle_of_no_client = (refl, refl)

pub bad_handle_comes_before_bad_flags : BeginRow (no_client no_handle) (an_open 0) (refused_plainly errors.BadFlags) → ⊥
bad_handle_comes_before_bad_flags row = true≢false row.1

pub bad_handle_of_a_place_without_one : BeginRow (a_client no_handle) writes_nothing (refused_plainly errors.BadHandle)
bad_handle_of_a_place_without_one = (refl, refl)

pub bad_handle_comes_before_invalid_param : BeginRow (a_client no_handle) writes_nothing (refused_plainly errors.InvalidParam) → ⊥
bad_handle_comes_before_invalid_param row = true≢false row.1

pub an_unlink_asks_for_no_place : BeginRow (a_client no_handle) (asks.Unlink (codes "ck")) (refused_plainly errors.BadHandle) → ⊥
an_unlink_asks_for_no_place row = false≢true row.1

-- ---- INIT

pub init_of_an_open : BeginRow (without_callbacks no_handle) (opens_alone checkpoint_read) (refused_plainly errors.Init)
init_of_an_open = (refl, refl, refl)

pub init_of_a_synchronisation : BeginRow (without_callbacks on_the_active) synchronises_alone (refused_plainly errors.Init)
init_of_a_synchronisation = (refl, refl, refl)

pub not_where_the_callback_is_registered : BeginRow (a_client no_handle) (opens_alone checkpoint_read) (refused_plainly errors.Init) → ⊥
not_where_the_callback_is_registered row = false≢true row.2

pub not_of_an_open_that_waits : BeginRow (without_callbacks no_handle) (an_open checkpoint_read) (refused_plainly errors.Init) → ⊥
not_of_an_open_that_waits row = false≢true row.2

pub bad_handle_comes_before_init : BeginRow (without_callbacks no_handle) synchronises_alone (refused_plainly errors.Init) → ⊥
bad_handle_comes_before_init row = true≢false row.1

pub init_comes_before_bad_flags : BeginRow (without_callbacks no_handle) (opens_alone 0) (refused_plainly errors.BadFlags) → ⊥
init_comes_before_bad_flags row = true≢false row.2

pub init_comes_before_access : BeginRow (without_callbacks for_reading) synchronises_alone (refused_plainly errors.Access) → ⊥
init_comes_before_access row = true≢false row.2

-- ---- BAD_FLAGS

pub bad_flags_of_an_open : BeginRow (a_client no_handle) (asks.Open 0 [] 0 (Some end_of_time) None) (refused_plainly errors.BadFlags)
bad_flags_of_an_open = (refl, refl, refl, refl)

pub bad_flags_comes_before_invalid_param : BeginRow (a_client no_handle) (asks.Open 0 [] 0 (Some end_of_time) None) (refused_plainly errors.InvalidParam) → ⊥
bad_flags_comes_before_invalid_param row = true≢false row.3

pub bad_flags_of_an_asynchronous_open : BeginRow (a_client no_handle) (opens_alone 0) (refused_plainly errors.BadFlags)
bad_flags_of_an_asynchronous_open = (refl, refl, refl, refl)

-- ---- INVALID_PARAM

pub invalid_param_of_an_empty_name : BeginRow (a_client no_handle) (asks.Open 0 [] checkpoint_read (Some end_of_time) None) (refused_plainly errors.InvalidParam)
invalid_param_of_an_empty_name = (refl, refl, refl, refl, refl)

pub invalid_param_of_a_creation_without_attributes : BeginRow (a_client no_handle) (an_open checkpoint_create) (refused_plainly errors.InvalidParam)
invalid_param_of_a_creation_without_attributes = (refl, refl, refl, refl, refl)

pub not_of_an_open_of_what_is_there : BeginRow (a_client no_handle) (an_open checkpoint_read) (refused_plainly errors.InvalidParam) → ⊥
not_of_an_open_of_what_is_there row = false≢true row.4

pub invalid_param_of_a_write_of_nothing : BeginRow (a_client for_reading) writes_nothing (refused_plainly errors.InvalidParam)
invalid_param_of_a_write_of_nothing = (refl, refl, refl, refl, refl)

pub invalid_param_comes_before_access : BeginRow (a_client for_reading) writes_nothing (refused_plainly errors.Access) → ⊥
invalid_param_comes_before_access row = true≢false row.4

pub invalid_param_of_a_retention_below_0 : BeginRow (a_client for_reading) (asks.Retain 0 (negsuc 0)) (refused_plainly errors.InvalidParam)
invalid_param_of_a_retention_below_0 = (refl, refl, refl, refl, refl)

pub not_of_a_retention_of_0 : BeginRow (a_client for_reading) (asks.Retain 0 (pos 0)) (refused_plainly errors.InvalidParam) → ⊥
not_of_a_retention_of_0 row = false≢true row.4

pub invalid_param_of_an_asynchronous_creation_without_attributes : BeginRow (a_client no_handle) (opens_alone checkpoint_create) (refused_plainly errors.InvalidParam)
invalid_param_of_an_asynchronous_creation_without_attributes = (refl, refl, refl, refl, refl)

pub invalid_param_of_a_dispatch_of_neither : BeginRow with_two_ended (asks.Dispatch 3) (refused_plainly errors.InvalidParam)
invalid_param_of_a_dispatch_of_neither = (refl, refl, refl, refl, refl)

pub not_of_a_dispatch_of_one : BeginRow with_two_ended (asks.Dispatch dispatch_one) (refused_plainly errors.InvalidParam) → ⊥
not_of_a_dispatch_of_one row = false≢true row.4

-- ---- ACCESS

pub access_of_a_deletion : BeginRow (a_client for_reading) deletes (refused_plainly errors.Access)
access_of_a_deletion = (refl, refl, refl, refl, refl, refl)

pub not_where_it_was_opened_for_writing : BeginRow (a_client for_writing) deletes (refused_plainly errors.Access) → ⊥
not_where_it_was_opened_for_writing row = false≢true row.5

pub a_status_asks_for_no_flag : BeginRow (a_client for_writing) (asks.Status 0) (refused_plainly errors.Access) → ⊥
a_status_asks_for_no_flag row = false≢true row.5

pub access_of_a_synchronisation : BeginRow (a_client for_reading) (synchronises 0) (refused_plainly errors.Access)
access_of_a_synchronisation = (refl, refl, refl, refl, refl, refl)

pub access_of_an_asynchronous_synchronisation : BeginRow (a_client for_reading) synchronises_alone (refused_plainly errors.Access)
access_of_an_asynchronous_synchronisation = (refl, refl, refl, refl, refl, refl)

-- ---- BAD_OPERATION

pub bad_operation_with_updates_on_all_replicas : BeginRow (a_client for_writing) (synchronises 0) (refused_plainly errors.BadOperation)
bad_operation_with_updates_on_all_replicas = (refl, refl, refl, refl, refl, refl, refl)

pub access_comes_before_bad_operation : BeginRow (a_client for_reading) (synchronises 0) (refused_plainly errors.BadOperation) → ⊥
access_comes_before_bad_operation row = true≢false row.5

pub invalid_param_of_a_timeout_below_0 : BeginRow (a_client for_writing) (asks.Synchronize 0 (Some (negsuc 0))) (refused_plainly errors.InvalidParam)
invalid_param_of_a_timeout_below_0 = (refl, refl, refl, refl, refl)

pub not_with_updates_on_the_active : BeginRow (a_client on_the_active) (synchronises 0) (refused_plainly errors.BadOperation) → ⊥
not_with_updates_on_the_active row = false≢true row.6

pub bad_operation_of_an_asynchronous_synchronisation : BeginRow (a_client for_writing) synchronises_alone (refused_plainly errors.BadOperation)
bad_operation_of_an_asynchronous_synchronisation = (refl, refl, refl, refl, refl, refl, refl)

pub not_of_a_deletion : BeginRow (a_client for_writing) deletes (refused_plainly errors.BadOperation) → ⊥
not_of_a_deletion row = false≢true row.6

-- ---- NO_RESOURCES, behind all others

pub no_resources_for_the_seventeenth : BeginRow (with_opens 16 no_handle) (opens_alone checkpoint_read) (Some (Refused errors.NoResources (Count 16)))
no_resources_for_the_seventeenth = (record { version = refl; handle = refl; callback = refl; flags = refl; arguments = refl; access = refl; operation = refl }, refl, omega arith, refl)

pub not_for_the_sixteenth : BeginRow (with_opens 15 no_handle) (opens_alone checkpoint_read) (Some (Refused errors.NoResources (Count 16))) → ⊥
not_for_the_sixteenth row = let full : 16 ≤ 15 = row.2 in omega (arith, full)

pub not_for_an_open_that_waits : BeginRow (with_opens 16 no_handle) (an_open checkpoint_read) (Some (Refused errors.NoResources (Count 16))) → ⊥
not_for_an_open_that_waits row = false≢true row.1

pub bad_operation_comes_before_no_resources : BeginRow (with_opens 16 for_writing) synchronises_alone (Some (Refused errors.NoResources (Count 16))) → ⊥
bad_operation_comes_before_no_resources row = true≢false row.0.operation

-- ---- OK at once

pub the_end_of_an_iteration_is_ok : BeginRow (a_client for_reading) (asks.EndIteration 0) done_at_once
the_end_of_an_iteration_is_ok = (record { version = refl; handle = refl; callback = refl; flags = refl; arguments = refl; access = refl; operation = refl }, refl, tt)

pub it_does_not_go_on : BeginRow (a_client for_reading) (asks.EndIteration 0) None → ⊥
it_does_not_go_on row = false≢true row.1

pub what_has_ended_does_not_end_again : BeginRow (a_client no_handle) (asks.EndIteration 0) done_at_once → ⊥
what_has_ended_does_not_end_again row = true≢false row.0.handle

pub no_other_call_is_ok_at_once : BeginRow (a_client for_writing) deletes done_at_once → ⊥
no_other_call_is_ok_at_once row = false≢true row.1

pub the_sixteenth_open_is_ok : BeginRow (with_opens 15 no_handle) (opens_alone checkpoint_read) done_at_once
the_sixteenth_open_is_ok = (record { version = refl; handle = refl; callback = refl; flags = refl; arguments = refl; access = refl; operation = refl }, refl, omega arith)

pub the_seventeenth_is_not : BeginRow (with_opens 16 no_handle) (opens_alone checkpoint_read) done_at_once → ⊥
the_seventeenth_is_not row = let free : 16 < 16 = row.2 in omega (arith, free)

pub a_synchronisation_by_itself_is_ok : BeginRow (a_client on_the_active) synchronises_alone done_at_once
a_synchronisation_by_itself_is_ok = (record { version = refl; handle = refl; callback = refl; flags = refl; arguments = refl; access = refl; operation = refl }, refl, omega arith)

pub not_one_that_waits : BeginRow (a_client on_the_active) (synchronises 0) done_at_once → ⊥
not_one_that_waits row = false≢true row.1

-- ---- what a dispatch gives

pub a_dispatch_gives_one : BeginRow with_two_ended (asks.Dispatch dispatch_one) (gives 1 1)
a_dispatch_gives_one = (record { version = refl; handle = refl; callback = refl; flags = refl; arguments = refl; access = refl; operation = refl }, refl)

pub a_dispatch_gives_all : BeginRow with_two_ended (asks.Dispatch dispatch_all) (gives 2 0)
a_dispatch_gives_all = (record { version = refl; handle = refl; callback = refl; flags = refl; arguments = refl; access = refl; operation = refl }, refl)

pub a_dispatch_may_give_none : BeginRow (a_client no_handle) (asks.Dispatch dispatch_one) (gives 0 0)
a_dispatch_may_give_none = (record { version = refl; handle = refl; callback = refl; flags = refl; arguments = refl; access = refl; operation = refl }, refl)

pub a_dispatch_does_not_go_on : BeginRow with_two_ended (asks.Dispatch dispatch_one) None → ⊥
a_dispatch_does_not_go_on row = false≢true row.1

pub no_other_call_gives_callbacks : BeginRow with_two_ended (asks.Status 0) (gives 1 1) → ⊥
no_other_call_gives_callbacks row = row.1

-- what has ended first is given first
pub the_first_that_has_ended : callbacks_told (gives 1 1) (asks.Dispatch dispatch_one) two_ended ≡ beside.Callbacks (record { kind = kinds.Sync; invocation = 5; outcome = Done answers.Nothing } ∷ [])
the_first_that_has_ended = refl

pub all_that_have_ended : callbacks_told (gives 2 0) (asks.Dispatch dispatch_all) two_ended ≡ beside.Callbacks (record { kind = kinds.Sync; invocation = 5; outcome = Done answers.Nothing } ∷ record { kind = kinds.Open 0; invocation = 4; outcome = Done (answers.Opened 1) } ∷ [])
all_that_have_ended = refl

-- ---- NO_MEMORY

pub no_memory_for_an_iteration : BeginRow (a_client for_reading) (an_iteration sections_any) (Some NoMemory)
no_memory_for_an_iteration = (record { version = refl; handle = refl; callback = refl; flags = refl; arguments = refl; access = refl; operation = refl }, refl, tt)

pub no_memory_for_a_synchronisation : BeginRow (a_client on_the_active) (synchronises 0) (Some NoMemory)
no_memory_for_a_synchronisation = (record { version = refl; handle = refl; callback = refl; flags = refl; arguments = refl; access = refl; operation = refl }, refl, tt)

pub no_memory_for_one_that_goes_on_by_itself : BeginRow (a_client on_the_active) synchronises_alone (Some NoMemory)
no_memory_for_one_that_goes_on_by_itself = (record { version = refl; handle = refl; callback = refl; flags = refl; arguments = refl; access = refl; operation = refl }, refl, omega arith)

pub no_memory_for_an_open_that_goes_on_by_itself : BeginRow (with_opens 15 no_handle) (opens_alone checkpoint_read) (Some NoMemory)
no_memory_for_an_open_that_goes_on_by_itself = (record { version = refl; handle = refl; callback = refl; flags = refl; arguments = refl; access = refl; operation = refl }, refl, omega arith)

pub not_for_an_open_whose_client_waits : BeginRow (a_client no_handle) (an_open checkpoint_read) (Some NoMemory) → ⊥
not_for_an_open_whose_client_waits row = false≢true row.1

pub no_resources_comes_before_no_memory : BeginRow (with_opens 16 on_the_active) synchronises_alone (Some NoMemory) → ⊥
no_resources_comes_before_no_memory row = let free : 16 < 16 = row.2 in omega (arith, free)

pub bad_operation_comes_before_no_memory : BeginRow (a_client for_writing) (synchronises 0) (Some NoMemory) → ⊥
bad_operation_comes_before_no_memory row = true≢false row.0.operation

pub access_comes_before_no_memory : BeginRow (a_client for_writing) (an_iteration sections_any) (Some NoMemory) → ⊥
access_comes_before_no_memory row = true≢false row.0.access

pub no_other_call_takes_room : BeginRow (a_client for_reading) (asks.Status 0) (Some NoMemory) → ⊥
no_other_call_takes_room row = false≢true row.1

-- ---- a call that goes on

pub a_deletion_goes_on : BeginRow (a_client for_writing) deletes None
a_deletion_goes_on = (record { version = refl; handle = refl; callback = refl; flags = refl; arguments = refl; access = refl; operation = refl }, refl)

pub a_synchronisation_goes_on : BeginRow (a_client on_the_active) (synchronises 0) None
a_synchronisation_goes_on = (record { version = refl; handle = refl; callback = refl; flags = refl; arguments = refl; access = refl; operation = refl }, refl)

pub not_where_a_refusal_applies : BeginRow (a_client for_reading) (an_iteration 0) None → ⊥
not_where_a_refusal_applies row = true≢false row.0.arguments

-- ---- a copying

-- of a node that is up
abbrev a_node : Standing
a_node = a_client no_handle

pub a_copying_goes_on : BeginRow a_node asks.Copy None
a_copying_goes_on = (record { version = refl; handle = refl; callback = refl; flags = refl; arguments = refl; access = refl; operation = refl }, refl)

pub it_takes_room : BeginRow a_node asks.Copy (Some NoMemory)
it_takes_room = (record { version = refl; handle = refl; callback = refl; flags = refl; arguments = refl; access = refl; operation = refl }, refl, tt)

pub it_answers_nothing_at_once : BeginRow a_node asks.Copy done_at_once → ⊥
it_answers_nothing_at_once row = false≢true row.1

-- all eight nodes are up, and nothing else has happened
abbrev all_up : Machine
all_up = record empty_cluster { cluster = brought_up nodes_max empty_cluster.cluster }

pub n2_copies : Allowed all_up (labels.Began (record { actor = Node 2; number = 1 }) ops.Copy None beside.Nothing)
n2_copies = record { asker = omega arith; built = tt; number = refl; none_in_hand = refl; may = refl; row = (record { version = refl; handle = refl; callback = refl; flags = refl; arguments = refl; access = refl; operation = refl }, refl); told = refl }

pub not_where_it_is_down : Allowed empty_cluster (labels.Began (record { actor = Node 2; number = 1 }) ops.Copy None beside.Nothing) → ⊥
not_where_it_is_down is = false≢true is.may

pub no_client_copies : Allowed all_up (labels.Began (record { actor = Client 2; number = 1 }) ops.Copy None beside.Nothing) → ⊥
no_client_copies is = is.asker

pub no_node_leaves : Allowed all_up (labels.Began (record { actor = Node 2; number = 1 }) ops.Finalize None beside.Nothing) → ⊥
no_node_leaves is = is.asker

-- ---- words

-- c0 is told this in place of an Initialize, or of a step
abbrev initialize_of_c0 : Said → Label
initialize_of_c0 said = labels.Word (Actor (Client 0)) (linewords.Op opwords.Client) said

abbrev step_of_c0 : Said → Label
step_of_c0 said = labels.Word (Actor (Client 0)) linewords.Step said

pub idle_without_a_call : Allowed empty_cluster (step_of_c0 Idle)
idle_without_a_call = (tt, refl)

pub idle_without_the_operation : Allowed empty_cluster (labels.Word (Call (record { actor = Client 0; number = 1 })) linewords.Step Idle)
idle_without_the_operation = (tt, refl)

pub an_operation_is_never_busy : Allowed empty_cluster (labels.Word (Call (record { actor = Client 0; number = 1 })) linewords.Step Busy) → ⊥
an_operation_is_never_busy row = row

pub idle_is_no_word_for_an_initialize : Allowed empty_cluster (initialize_of_c0 Idle) → ⊥
idle_is_no_word_for_an_initialize row = row.0

pub not_busy_without_a_call : Allowed empty_cluster (initialize_of_c0 Busy) → ⊥
not_busy_without_a_call row = false≢true row.1

pub not_live_before_it_entered : Allowed empty_cluster (initialize_of_c0 Live) → ⊥
not_live_before_it_entered row = false≢true row.1.1

pub down_where_no_node_is_up : Allowed empty_cluster (initialize_of_c0 Down)
down_where_no_node_is_up = (refl, (tt, refl, record { node = 0; below = omega arith; down = refl }))

pub not_down_where_all_are_up : Allowed all_up (initialize_of_c0 Down) → ⊥
not_down_where_all_are_up row =
    let node = row.1.2.node in
    let up : is_up node all_up.cluster ≡ true = agree_below_at (λ r. is_up r all_up.cluster) (λ r. true) nodes_max node refl row.1.2.below in
    true≢false (sym up ∙ row.1.2.down)

-- n2 is told this in place of a copying
abbrev copying_of_n2 : Said → Label
copying_of_n2 said = labels.Word (Actor (Node 2)) (linewords.Op opwords.Copy) said

pub down_where_n2_is_not_up : Allowed empty_cluster (copying_of_n2 Down)
down_where_n2_is_not_up = (refl, (tt, omega arith, refl))

pub not_down_where_n2_is_up : Allowed all_up (copying_of_n2 Down) → ⊥
not_down_where_n2_is_up row = true≢false row.1.2

pub live_is_no_word_for_a_node : Allowed all_up (copying_of_n2 Live) → ⊥
live_is_no_word_for_a_node row = row.1

pub nor_is_down_to_an_initialize : Allowed empty_cluster (labels.Word (Actor (Node 2)) (linewords.Op opwords.Client) Down) → ⊥
nor_is_down_to_an_initialize row = row.1.0
