-- Worked scripts of handles and references, each by computation: what is left behind a close, and what a close would leave that took more than one reference.
use Rattle.std.proofs.Common.{◌≡◌, ℕ, ◌+◌, List, [], ◌∷◌, ◌++◌, map, Option, Some, None, codes, true, false, refl, arith}
use Rattle.std.specs.Option.{option_map}
use Rattle.std.specs.Prelude.{slice_index}
use Rattle.ckpt_types.specs.declared.answers.Answer.TheVariants as answers
use Rattle.ckpt_types.specs.declared.answers.Outcome.{Outcome}
use Rattle.ckpt_types.specs.declared.answers.Outcome.TheVariants.{Done}
use Rattle.ckpt_types.specs.declared.identities.ActorName.TheVariants.{Client}
use Rattle.ckpt_types.specs.declared.identities.CallId.{CallId}
use Rattle.ckpt_types.specs.declared.identities.Who.TheVariants.{Actor}
use Rattle.ckpt_types.specs.declared.operation.Op.{Op}
use Rattle.ckpt_types.specs.declared.operation.Op.TheVariants as ops
use Rattle.ckpt_types.specs.declared.words.OpWord.{OpWord}
use Rattle.ckpt_types.specs.declared.words.OpWord.TheVariants as opwords
use Rattle.ckpt_types.specs.Limits.{checkpoint_read, checkpoint_write, checkpoint_create, end_of_time, release, major_max, minor_answered}
use Rattle.node_msgs.specs.declared.details.Details.TheVariants as beside
use Rattle.node_msgs.specs.declared.steps.StepReply.TheVariants as words
use Rattle.node_msgs.specs.declared.steps.Verb.{Verb}
use Rattle.node_msgs.specs.declared.steps.Verb.TheVariants as verbs
use Rattle.run_labels.specs.declared.labels.Label.{Label}
use Rattle.run_labels.specs.declared.labels.Label.TheVariants as labels
use Rattle.cluster_record.specs.declared.entries.Entry.{Entry}
use Rattle.cluster_record.specs.Places.{change_key}
use Rattle.cluster_record.specs.RecordState.{RecordState, entry_of, identity_of, closed, released_all}
use Rattle.ckpt_machine.specs.After.{record_step, with_closed}
use Rattle.ckpt_machine.specs.Due.{asked_handle}
use Rattle.ckpt_machine.specs.Machine.{Machine, CallState}
use Rattle.ckpt_machine.specs.References.{handles_of}
use Rattle.ckpt_machine.specs.Runs.{last, IsRun}
use Rattle.ckpt_machine.proofs.AcknowledgedExamples.{call_numbered}
use Rattle.ckpt_machine.proofs.ClaimExamples.{other_numbered, an_initialize}
use Rattle.ckpt_machine.proofs.DueRuns.{played_is_run}
use Rattle.ckpt_machine.proofs.RunExamples.{sized}

-- ---- the words of the scripts

-- a call begins, and goes on
abbrev begins : CallId → Op → Label
begins call op = labels.Began call op None beside.Nothing

-- a step of the record, at checkpoint 1, that ends the call OK
abbrev ends : CallId → OpWord → Verb → Outcome → Label
ends call word verb end = labels.Stepped call word verb (Some 1) None words.Ok (Some end) beside.Nothing

-- a client enters on a node
abbrev enters : CallId → ℕ → List Label
enters call r =
    begins call (an_initialize r)
    ∷ labels.Stepped call opwords.Client verbs.Enter None (Some r) words.Ok (Some (Done answers.Version)) beside.Nothing
    ∷ []

-- c0 makes a checkpoint on these nodes, at h0
abbrev makes : Op
makes = ops.Open 0 (codes "ck") (checkpoint_read + checkpoint_write + checkpoint_create) end_of_time (Some (sized 16 1))

abbrev reserves : ℕ → Label
reserves r = labels.Stepped (call_numbered 2) opwords.Open verbs.Reserve (Some 1) (Some r) words.Ok None beside.Nothing

abbrev made_on : List ℕ → List Label
made_on nodes =
    begins (call_numbered 2) makes
    ∷ labels.Stepped (call_numbered 2) opwords.Open verbs.Create (Some 1) None words.Ok None beside.Nothing
    ∷ map reserves nodes
    ++ ends (call_numbered 2) opwords.Open verbs.Finish (Done (answers.Opened 1))
    ∷ []

-- on one
abbrev made : List Label
made = made_on (0 ∷ [])

-- it opens it once more, at h1, and unlinks it
abbrev opened_twice : List Label
opened_twice =
    labels.Nodes 1
    ∷ enters (call_numbered 1) 0
    ++ made
    ++ begins (call_numbered 3) (ops.Open 1 (codes "ck") checkpoint_read end_of_time None)
    ∷ ends (call_numbered 3) opwords.Open verbs.Open (Done (answers.Opened 1))
    ∷ begins (call_numbered 4) (ops.Unlink (codes "ck"))
    ∷ ends (call_numbered 4) opwords.Unlink verbs.Unlink (Done answers.Nothing)
    ∷ []

-- and closes a handle by the call of this number
abbrev closing : ℕ → ℕ → List Label
closing n place = begins (call_numbered n) (ops.Close place) ∷ ends (call_numbered n) opwords.Close verbs.Close (Done answers.Nothing) ∷ []

-- how many handles of the checkpoint c0 has, and how many references of c0 its entry has, where it is there
abbrev handles : Machine → ℕ
handles m = handles_of 1 (m.tables (Client 0)).handles

abbrev references : Machine → Option ℕ
references m = option_map (λ (e : Entry). slice_index e.references 0) (entry_of 1 m.cluster.entries)

-- ---- two handles of one checkpoint, which is unlinked: it stays till the second close

pub two_closes_are_a_run : IsRun (opened_twice ++ closing 5 0 ++ closing 6 1)
two_closes_are_a_run = played_is_run (opened_twice ++ closing 5 0 ++ closing 6 1) (omega arith, omega arith, refl)

pub two_handles : handles (last opened_twice) ≡ 2
two_handles = refl

pub are_two_references : references (last opened_twice) ≡ Some 2
are_two_references = refl

pub a_close_leaves_one_handle : handles (last (opened_twice ++ closing 5 0)) ≡ 1
a_close_leaves_one_handle = refl

pub and_one_reference : references (last (opened_twice ++ closing 5 0)) ≡ Some 1
and_one_reference = refl

pub the_second_close_leaves_no_handle : handles (last (opened_twice ++ closing 5 0 ++ closing 6 1)) ≡ 0
the_second_close_leaves_no_handle = refl

pub and_no_checkpoint : references (last (opened_twice ++ closing 5 0 ++ closing 6 1)) ≡ None
and_no_checkpoint = refl

-- ---- an asynchronous open: it has its handle when it ends, though no place stands for it before its callback is given

-- c0's Initialize, with a callback for opens
abbrev an_initialize_with_callback : Op
an_initialize_with_callback = ops.Client 0 (record { release = release; major = major_max; minor = minor_answered }) (record { opens = true; syncs = false })

abbrev opens_async : Op
opens_async = ops.OpenAsync 1 7 (codes "ck") checkpoint_read None

-- it has made the checkpoint, and opens it so
abbrev opened_async : List Label
opened_async =
    labels.Nodes 1
    ∷ begins (call_numbered 1) an_initialize_with_callback
    ∷ labels.Stepped (call_numbered 1) opwords.Client verbs.Enter None (Some 0) words.Ok (Some (Done answers.Version)) beside.Nothing
    ∷ made
    ++ labels.Began (call_numbered 3) opens_async (Some (Done answers.Nothing)) beside.Nothing
    ∷ ends (call_numbered 3) opwords.OpenAsync verbs.Open (Done (answers.Opened 1))
    ∷ []

pub an_asynchronous_open_is_a_run : IsRun opened_async
an_asynchronous_open_is_a_run = played_is_run opened_async (omega arith, omega arith, refl)

pub it_has_a_second_handle : handles (last opened_async) ≡ 2
it_has_a_second_handle = refl

pub and_a_second_reference : references (last opened_async) ≡ Some 2
and_a_second_reference = refl

pub its_place_stands_for_none_yet : asked_handle (last opened_async) (Client 0) (ops.Close 1) ≡ None
its_place_stands_for_none_yet = refl

-- ---- the failure of a client's node: its references go with its handles

-- c1 on n1 has the only handle of a checkpoint that is unlinked
abbrev opened_by_other : List Label
opened_by_other =
    labels.Nodes 2
    ∷ enters (call_numbered 1) 0
    ++ enters (other_numbered 1) 1
    ++ made_on (0 ∷ 1 ∷ [])
    ++ begins (other_numbered 2) (ops.Open 0 (codes "ck") checkpoint_read end_of_time None)
    ∷ ends (other_numbered 2) opwords.Open verbs.Open (Done (answers.Opened 1))
    ∷ begins (call_numbered 3) (ops.Unlink (codes "ck"))
    ∷ ends (call_numbered 3) opwords.Unlink verbs.Unlink (Done answers.Nothing)
    ∷ closing 4 0

pub a_failure_behind_it_is_a_run : IsRun (opened_by_other ++ labels.Failed 1 true ∷ [])
a_failure_behind_it_is_a_run = played_is_run (opened_by_other ++ labels.Failed 1 true ∷ []) (omega arith, omega arith, refl)

-- how many handles and references of c1 there are
abbrev of_other : Machine → ℕ × Option ℕ
of_other m = (handles_of 1 (m.tables (Client 1)).handles, option_map (λ (e : Entry). slice_index e.references 1) (entry_of 1 m.cluster.entries))

pub it_has_one_of_each : of_other (last opened_by_other) ≡ (1, Some 1)
it_has_one_of_each = refl

pub and_none_behind_the_failure : of_other (last (opened_by_other ++ labels.Failed 1 true ∷ [])) ≡ (0, None)
and_none_behind_the_failure = refl

-- ---- a close that takes all references of its client in place of one

-- the first close has begun
abbrev closes_first : Machine
closes_first = last (opened_twice ++ begins (call_numbered 5) (ops.Close 0) ∷ [])

-- what this step of the record would make of it
abbrev closed_by : (RecordState → RecordState) → CallState → Machine
closed_by step s = with_closed s (record_step step closes_first)

-- what c0 has then
abbrev closed_with : (RecordState → RecordState) → CallState → ℕ × Option ℕ
closed_with step s = (handles (closed_by step s), references (closed_by step s))

abbrev closed_in_hand : (RecordState → RecordState) → Option (ℕ × Option ℕ)
closed_in_hand step = option_map (closed_with step) (closes_first.in_hand (Actor (Client 0)))

-- all references of c0 at once
abbrev all_released : RecordState → RecordState
all_released R = record R { entries = change_key identity_of 1 (released_all 0 R.moment) R.entries }

-- by the step that a close takes, a reference is left for the handle that is left
pub one_reference_goes_with_one_handle : closed_in_hand (closed 1 0) ≡ Some (1, Some 1)
one_reference_goes_with_one_handle = refl

-- by the other the checkpoint goes, and a handle of it is left, though no node has failed
pub all_references_are_too_many : closed_in_hand all_released ≡ Some (1, None)
all_references_are_too_many = refl
