-- Worked examples of the claims about a whole log: of what was asked, of who is in hand, of the order of calls, and of a run in which an active is set twice, each by computation.
use Rattle.std.proofs.Common.{◌≡◌, ℕ, ◌+◌, List, [], ◌∷◌, ◌++◌, Option, Some, None, codes, false, pos, inl, refl}
use Rattle.ckpt_types.specs.declared.answers.Answer.TheVariants as answers
use Rattle.ckpt_types.specs.declared.answers.Outcome.TheVariants.{Done}
use Rattle.ckpt_types.specs.declared.attributes.CreationAttributes.{CreationAttributes}
use Rattle.ckpt_types.specs.declared.identities.ActorName.TheVariants.{Client}
use Rattle.ckpt_types.specs.declared.identities.CallId.{CallId}
use Rattle.ckpt_types.specs.declared.identities.Who.TheVariants.{Actor}
use Rattle.ckpt_types.specs.declared.operation.Op.{Op}
use Rattle.ckpt_types.specs.declared.operation.Op.TheVariants as ops
use Rattle.ckpt_types.specs.declared.words.OpWord.TheVariants as opwords
use Rattle.ckpt_types.specs.Limits.{wr_active_replica, checkpoint_collocated, checkpoint_write, checkpoint_create, release, major_max, minor_answered, end_of_time}
use Rattle.node_msgs.specs.declared.details.Details.TheVariants as beside
use Rattle.node_msgs.specs.declared.steps.StepReply.TheVariants as words
use Rattle.node_msgs.specs.declared.steps.Verb.TheVariants as verbs
use Rattle.run_labels.specs.declared.labels.Label.{Label}
use Rattle.run_labels.specs.declared.labels.Label.TheVariants as labels
use Rattle.cluster_record.specs.declared.entries.Entry.{Entry}
use Rattle.cluster_record.specs.RecordState.{entry_of}
use Rattle.ckpt_machine.specs.ActivesSet.{SetsActive, HasHeld, HadNoOther}
use Rattle.ckpt_machine.specs.InOrder.{EndsBefore, KeepOrder}
use Rattle.ckpt_machine.specs.Machine.{Effect, Applied}
use Rattle.ckpt_machine.specs.Owners.{IsCallInHand}
use Rattle.ckpt_machine.specs.Runs.{last}
use Rattle.ckpt_machine.specs.WasAsked.{WasAsked, EachWasAsked}
use Rattle.ckpt_machine.proofs.AcknowledgedExamples.{call_numbered, answered_ok, abc, a_write, until_one_has_it, effects_of, it_has_begun}

-- ---- what was asked

-- the replica on n1 has what the write asks for
pub a_write_was_asked : WasAsked until_one_has_it 1 (call_numbered 3) abc
a_write_was_asked = inl (record { op = a_write; asks = tt; begun = it_has_begun; update_is = refl })

pub and_no_more : EachWasAsked until_one_has_it 1 (Applied (call_numbered 3) abc (pos 0) ∷ [])
and_no_more = (a_write_was_asked, tt)

-- ---- an active that is set twice

-- the calls of c1
abbrev pub other_numbered : ℕ → CallId
other_numbered n = record { actor = Client 1; number = n }

-- an Initialize on a node
abbrev pub an_initialize : ℕ → Op
an_initialize r = ops.Client r (record { release = release; major = major_max; minor = minor_answered }) (record { opens = false; syncs = false })

-- a collocated checkpoint with one section of 8 bytes, whose updates go to the active alone
abbrev pub collocated_section : CreationAttributes
collocated_section = record { creation_flags = wr_active_replica + checkpoint_collocated; checkpoint_size = 8; retention_duration = pos 0; max_sections = 1; max_section_size = 8; max_section_id_size = 8 }

-- c0 enters on n0, and c1 on n1; c0 makes the checkpoint, and c1 opens it, so that both nodes are complete
abbrev until_both_have_it : List Label
until_both_have_it =
    labels.Nodes 2
    ∷ labels.Began (call_numbered 1) (an_initialize 0) None beside.Nothing
    ∷ labels.Stepped (call_numbered 1) opwords.Client verbs.Enter None (Some 0) words.Ok (Some (Done answers.Version)) beside.Nothing
    ∷ labels.Began (other_numbered 1) (an_initialize 1) None beside.Nothing
    ∷ labels.Stepped (other_numbered 1) opwords.Client verbs.Enter None (Some 1) words.Ok (Some (Done answers.Version)) beside.Nothing
    ∷ labels.Began (call_numbered 2) (ops.Open 0 (codes "ck") (checkpoint_write + checkpoint_create) end_of_time (Some collocated_section)) None beside.Nothing
    ∷ labels.Stepped (call_numbered 2) opwords.Open verbs.Create (Some 1) None words.Ok None beside.Nothing
    ∷ labels.Stepped (call_numbered 2) opwords.Open verbs.Reserve (Some 1) (Some 0) words.Ok None beside.Nothing
    ∷ labels.Stepped (call_numbered 2) opwords.Open verbs.Finish (Some 1) None words.Ok (Some (Done (answers.Opened 1))) beside.Nothing
    ∷ labels.Began (other_numbered 2) (ops.Open 0 (codes "ck") checkpoint_write end_of_time None) None beside.Nothing
    ∷ labels.Stepped (other_numbered 2) opwords.Open verbs.Open (Some 1) None words.Ok (Some (Done (answers.Opened 1))) beside.Nothing
    ∷ labels.Began (call_numbered 3) (ops.Active 0) None beside.Nothing
    ∷ []

-- the node of c0 is set as the active, at once
abbrev first_set : Label
first_set = labels.Stepped (call_numbered 3) opwords.Active verbs.Activate (Some 1) (Some 0) words.Ok answered_ok beside.Nothing

pub it_sets_an_active : SetsActive first_set (call_numbered 3)
it_sets_an_active = refl

-- no node was it before, and n0 had nothing
pub no_active_before : HadNoOther (last until_both_have_it) 1 0 []
no_active_before = record { active = inl refl; replica = _; there = refl; effects_are = refl }

-- c0 writes, and c1 asks for its own node
abbrev until_c1_asks : List Label
until_c1_asks =
    until_both_have_it
    ++ first_set
    ∷ labels.Began (call_numbered 4) a_write None beside.Nothing
    ∷ labels.Stepped (call_numbered 4) opwords.Write verbs.Apply (Some 1) (Some 0) words.Ok answered_ok beside.Nothing
    ∷ labels.Began (other_numbered 3) (ops.Active 0) None beside.Nothing
    ∷ []

-- the write had ended when c1 began, so no update of that call of c1 could stand in front of it
abbrev the_write_ends : Label
the_write_ends = labels.Stepped (call_numbered 4) opwords.Write verbs.Apply (Some 1) (Some 0) words.Ok answered_ok beside.Nothing

pub it_ends_before : EndsBefore until_c1_asks (call_numbered 4) (other_numbered 3)
it_ends_before = record { before = until_both_have_it ++ first_set ∷ labels.Began (call_numbered 4) a_write None beside.Nothing ∷ []; between = []; behind = []; ending = the_write_ends; op = ops.Active 0; end = None; details = beside.Nothing; log_is = refl; ends = inl refl }

pub and_stands_first : KeepOrder until_c1_asks (Applied (other_numbered 3) abc (pos 0) ∷ Applied (call_numbered 4) abc (pos 0) ∷ []) → ⊥
and_stands_first order = order (call_numbered 4) (other_numbered 3) it_ends_before (inl (refl, inl refl))

-- the checkpoint is held on n0
abbrev a_hold : Label
a_hold = labels.Stepped (other_numbered 3) opwords.Active verbs.Hold (Some 1) (Some 0) words.Ok None beside.Nothing

abbrev pub until_it_holds : List Label
until_it_holds = until_c1_asks ++ a_hold ∷ []

-- what n0 has by then
abbrev written : List Effect
written = Applied (call_numbered 4) abc (pos 0) ∷ []

pub it_has_held : HasHeld until_it_holds (other_numbered 3) 1 written
it_has_held = record { before = until_c1_asks; behind = []; hold = a_hold; node = 0; log_is = refl; hold_is = (refl, refl, refl); held = record { active = refl; replica = _; there = refl; effects_are = refl } }

-- by a call in hand
abbrev pub holder_of : Option Entry → Option CallId
holder_of None = None
holder_of (Some e) = e.hold

pub c1_holds_it : holder_of (entry_of 1 (last until_it_holds).cluster.entries) ≡ Some (other_numbered 3)
c1_holds_it = refl

pub and_is_in_hand : IsCallInHand (last until_it_holds) (other_numbered 3)
and_is_in_hand = record { name = Actor (Client 1); state = _; in_hand = refl; call_is = refl }

-- n1 has nothing of it yet
abbrev effects_at : List Label → ℕ → Option (List Effect)
effects_at log r = effects_of ((last log).replicas 1 r)

pub n1_has_nothing : effects_at until_it_holds 1 ≡ Some []
n1_has_nothing = refl

-- then the node of c1 is the active, with what n0 had
abbrev second_set : Label
second_set = labels.Stepped (other_numbered 3) opwords.Active verbs.Activate (Some 1) (Some 1) words.Ok answered_ok beside.Nothing

pub n1_has_what_n0_had : effects_at (until_it_holds ++ second_set ∷ []) 1 ≡ Some written
n1_has_what_n0_had = refl

abbrev pub active_of : Option Entry → Option ℕ
active_of None = None
active_of (Some e) = e.active

pub n1_is_the_active : active_of (entry_of 1 (last (until_it_holds ++ second_set ∷ [])).cluster.entries) ≡ Some 1
n1_is_the_active = refl

pub and_none_holds_it : holder_of (entry_of 1 (last (until_it_holds ++ second_set ∷ [])).cluster.entries) ≡ None
and_none_holds_it = refl

-- which was asked for by c0
pub c0_has_asked_for_it : EachWasAsked (until_it_holds ++ second_set ∷ []) 1 written
c0_has_asked_for_it = (inl (record { op = a_write; asks = tt; begun = record { before = until_both_have_it ++ first_set ∷ []; behind = _; end = None; details = beside.Nothing; log_is = refl; goes = refl; ckpt_is = refl }; update_is = refl }), tt)
