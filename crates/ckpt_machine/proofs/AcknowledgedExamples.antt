-- Worked examples of which labels answer an update OK, of three whole runs to such a label, and of a failure behind one, each by computation.
use Rattle.std.proofs.Common.{◌≡◌, ℕ, ◌+◌, List, [], ◌∷◌, ◌++◌, map, Option, Some, None, codes, true, false, pos, inl, inr, refl, ap, arith}
use Rattle.std.specs.Option.{option_map}
use Rattle.ckpt_types.specs.declared.answers.Answer.TheVariants as answers
use Rattle.ckpt_types.specs.declared.answers.Outcome.{Outcome}
use Rattle.ckpt_types.specs.declared.answers.Outcome.TheVariants.{Done}
use Rattle.ckpt_types.specs.declared.attributes.CreationAttributes.{CreationAttributes}
use Rattle.ckpt_types.specs.declared.identities.ActorName.TheVariants.{Client}
use Rattle.ckpt_types.specs.declared.identities.CallId.{CallId}
use Rattle.ckpt_types.specs.declared.operation.Op.{Op}
use Rattle.ckpt_types.specs.declared.operation.Op.TheVariants as ops
use Rattle.ckpt_types.specs.declared.update.Update.{Update}
use Rattle.ckpt_types.specs.declared.update.Update.TheVariants as updates
use Rattle.ckpt_types.specs.Sections.{Section}
use Rattle.ckpt_types.specs.Limits.{wr_all_replicas, wr_active_replica, wr_active_replica_weak, checkpoint_write, checkpoint_create, release, major_max, minor_answered, end_of_time}
use Rattle.weak_marks.specs.Marks.{Marked}
use Rattle.node_msgs.specs.declared.steps.StepReply.TheVariants as words
use Rattle.node_msgs.specs.declared.steps.Verb.{Verb}
use Rattle.node_msgs.specs.declared.steps.Verb.TheVariants as verbs
use Rattle.node_msgs.specs.declared.details.Details.TheVariants as beside
use Rattle.run_labels.specs.declared.labels.Label.{Label}
use Rattle.run_labels.specs.declared.labels.Label.TheVariants as labels
use Rattle.ckpt_types.specs.declared.words.OpWord.{OpWord}
use Rattle.ckpt_types.specs.declared.words.OpWord.TheVariants as opwords
use Rattle.cluster_record.specs.declared.entries.Entry.{Entry}
use Rattle.cluster_record.specs.RecordState.{entry_of}
use Rattle.ckpt_machine.specs.Acknowledged.{Acknowledges, HasBegun, HasUpdate, IsToHave, LeavesActive}
use Rattle.ckpt_machine.specs.Machine.{Effect, Applied, ReplicaState}
use Rattle.ckpt_machine.specs.Runs.{last}

-- ---- the words of the examples

-- the calls of c0
abbrev pub call_numbered : ℕ → CallId
call_numbered n = record { actor = Client 0; number = n }

abbrev pub answered_ok : Option Outcome
answered_ok = Some (Done answers.Nothing)

-- a checkpoint with one section of 8 bytes, by its option, which is kept for 10 behind its last close, and a write of it
abbrev one_section : ℕ → CreationAttributes
one_section option = record { creation_flags = option; checkpoint_size = 8; retention_duration = pos 10; max_sections = 1; max_section_size = 8; max_section_id_size = 8 }

abbrev pub abc : Update
abc = updates.Write (record { id = []; offset = 0; bytes = codes "abc" } ∷ [])

abbrev pub a_write : Op
a_write = ops.Write 0 abc

-- a step of a call on a checkpoint and a node, by which it goes on
abbrev write_step : ℕ → OpWord → Verb → Option ℕ → Option ℕ → Label
write_step n word verb k r = labels.Stepped (call_numbered n) word verb k r words.Ok None beside.Nothing

-- the commit of a write that ends it
abbrev last_commit : OpWord → Label
last_commit word = labels.Stepped (call_numbered 3) word verbs.Commit (Some 1) (Some 0) words.Ok answered_ok beside.Nothing

-- ---- which labels answer an update OK

pub a_commit_that_ends_a_write : Acknowledges (last_commit opwords.Write) (call_numbered 3)
a_commit_that_ends_a_write = (refl, tt)

-- where updates go to the active alone, a write ends by the one step that applies it
abbrev applied_at_once : Label
applied_at_once = labels.Stepped (call_numbered 3) opwords.Write verbs.Apply (Some 1) (Some 0) words.Ok answered_ok beside.Nothing

pub an_apply_that_ends_a_write : Acknowledges applied_at_once (call_numbered 3)
an_apply_that_ends_a_write = (refl, tt)

-- a weak write ends by the step that ends its marks
abbrev end_of_marks : Label
end_of_marks = labels.Stepped (call_numbered 3) opwords.Write verbs.Unmark (Some 1) (Some 0) words.Ok answered_ok beside.Nothing

pub an_end_of_marks_that_ends_a_write : Acknowledges end_of_marks (call_numbered 3)
an_end_of_marks_that_ends_a_write = (refl, tt)

pub no_element_by_which_it_goes_on : Acknowledges (write_step 3 opwords.Write verbs.Element (Some 1) (Some 0)) (call_numbered 3) → ⊥
no_element_by_which_it_goes_on acks = acks

-- whether any allowed label is such a look or such a beginning, or not
pub a_look_that_ends_a_write : Acknowledges (labels.Stepped (call_numbered 3) opwords.Write verbs.Look None None words.Done answered_ok beside.Nothing) (call_numbered 3)
a_look_that_ends_a_write = (refl, tt)

pub a_beginning_that_ends_a_write : Acknowledges (labels.Began (call_numbered 3) a_write answered_ok beside.Nothing) (call_numbered 3)
a_beginning_that_ends_a_write = (refl, tt)

pub no_step_by_which_it_goes_on : Acknowledges (write_step 3 opwords.Write verbs.Commit (Some 1) (Some 1)) (call_numbered 3) → ⊥
no_step_by_which_it_goes_on acks = acks

pub not_by_a_close : Acknowledges (last_commit opwords.Close) (call_numbered 3) → ⊥
not_by_a_close acks = acks.1

-- ---- a run to such a label

-- two nodes come up, c0 enters on n0 and makes a checkpoint of this option
abbrev until_it_writes : ℕ → List Label
until_it_writes option =
    labels.Nodes 2
    ∷ labels.Began (call_numbered 1) (ops.Client 0 (record { release = release; major = major_max; minor = minor_answered }) (record { opens = false; syncs = false })) None beside.Nothing
    ∷ labels.Stepped (call_numbered 1) opwords.Client verbs.Enter None (Some 0) words.Ok (Some (Done answers.Version)) beside.Nothing
    ∷ labels.Began (call_numbered 2) (ops.Open 0 (codes "ck") (checkpoint_write + checkpoint_create) end_of_time (Some (one_section option))) None beside.Nothing
    ∷ write_step 2 opwords.Open verbs.Create (Some 1) None
    ∷ write_step 2 opwords.Open verbs.Reserve (Some 1) (Some 0)
    ∷ write_step 2 opwords.Open verbs.Reserve (Some 1) (Some 1)
    ∷ labels.Stepped (call_numbered 2) opwords.Open verbs.Finish (Some 1) None words.Ok (Some (Done (answers.Opened 1))) beside.Nothing
    ∷ []

-- with updates on all replicas: a write is staged on n0 and on n1, and committed on n1
abbrev pub until_one_has_it : List Label
until_one_has_it =
    until_it_writes wr_all_replicas
    ++ labels.Began (call_numbered 3) a_write None beside.Nothing
    ∷ write_step 3 opwords.Write verbs.Stage (Some 1) (Some 0)
    ∷ write_step 3 opwords.Write verbs.Stage (Some 1) (Some 1)
    ∷ write_step 3 opwords.Write verbs.Commit (Some 1) (Some 1)
    ∷ []

-- the effects on a node
abbrev pub effects_of : Option ReplicaState → Option (List Effect)
effects_of None = None
effects_of (Some x) = Some x.effects

abbrev effects_on : List Label → ℕ → Option (List Effect)
effects_on log r = effects_of ((last log).replicas 1 r)

pub n1_has_it_first : effects_on until_one_has_it 1 ≡ Some (Applied (call_numbered 3) abc (pos 0) ∷ [])
n1_has_it_first = refl

pub n0_has_it_staged : effects_on until_one_has_it 0 ≡ Some []
n0_has_it_staged = refl

-- it began there, on the checkpoint of the handle in place 0
pub it_has_begun : HasBegun until_one_has_it (call_numbered 3) a_write (Some 1)
it_has_begun = record { before = until_it_writes wr_all_replicas; behind = _; end = None; details = beside.Nothing; log_is = refl; goes = refl; ckpt_is = refl }

pub then_n0_has_it : effects_on (until_one_has_it ++ last_commit opwords.Write ∷ []) 0 ≡ Some (Applied (call_numbered 3) abc (pos 0) ∷ [])
then_n0_has_it = refl

pub and_n1_has_it : effects_on (until_one_has_it ++ last_commit opwords.Write ∷ []) 1 ≡ Some (Applied (call_numbered 3) abc (pos 0) ∷ [])
and_n1_has_it = refl

-- and that is the update of the call
pub which_is_its_update : HasUpdate (call_numbered 3) abc (Applied (call_numbered 3) abc (pos 0) ∷ [])
which_is_its_update = inl (refl, refl)

pub and_of_no_other_call : HasUpdate (call_numbered 4) abc (Applied (call_numbered 3) abc (pos 0) ∷ []) → ⊥
and_of_no_other_call (inl is) = let w : 3 ≡ 4 = ap (λ (c : CallId). c.number) is.0 in omega (arith, w)
and_of_no_other_call (inr none) = none

-- ---- a run where updates go to the active alone

-- a write is applied on n0, the active
abbrev until_the_active_has_it : List Label
until_the_active_has_it = until_it_writes wr_active_replica ++ labels.Began (call_numbered 3) a_write None beside.Nothing ∷ applied_at_once ∷ []

pub the_active_has_it : effects_on until_the_active_has_it 0 ≡ Some (Applied (call_numbered 3) abc (pos 0) ∷ [])
the_active_has_it = refl

-- n1 has it not, and is not to have it
pub n1_has_it_not : effects_on until_the_active_has_it 1 ≡ Some []
n1_has_it_not = refl

abbrev is_to_have : ℕ → Type 0
is_to_have r = IsToHave (entry_of 1 (last until_the_active_has_it).cluster.entries) r

pub n0_is_to_have_it : is_to_have 0
n0_is_to_have_it = inr refl

pub n1_is_not_to_have_it : is_to_have 1 → ⊥
n1_is_not_to_have_it (inl all) = let w : false ≡ true = all in cc w
n1_is_not_to_have_it (inr active) = let w : Some 0 ≡ Some 1 = active in cc w

-- ---- a node fails behind it

-- the failure of n1 leaves the active, which has the write still
pub n1_is_not_the_active : LeavesActive (entry_of 1 (last until_the_active_has_it).cluster.entries) 1
n1_is_not_the_active = inr (λ active. (let w : Some 0 ≡ Some 1 = active in cc w))

pub the_active_has_it_still : effects_on (until_the_active_has_it ++ labels.Failed 1 true ∷ []) 0 ≡ Some (Applied (call_numbered 3) abc (pos 0) ∷ [])
the_active_has_it_still = refl

-- that of n0 takes the active: n1 is it then, and has not the write, which is gone
pub n0_is_the_active : LeavesActive (entry_of 1 (last until_the_active_has_it).cluster.entries) 0 → ⊥
n0_is_the_active (inl all) = let w : false ≡ true = all in cc w
n0_is_the_active (inr other) = other refl

abbrev until_n0_has_failed : List Label
until_n0_has_failed = until_the_active_has_it ++ labels.Failed 0 true ∷ []

pub n1_leads_then : option_map (λ (e : Entry). e.active) (entry_of 1 (last until_n0_has_failed).cluster.entries) ≡ Some (Some 1)
n1_leads_then = refl

pub and_has_it_not : effects_on until_n0_has_failed 1 ≡ Some []
and_has_it_not = refl

pub nor_has_n0 : effects_on until_n0_has_failed 0 ≡ None
nor_has_n0 = refl

-- ---- a run of a weak write

-- a write of two elements, the second behind the first
abbrev abc_then_de : Update
abc_then_de = updates.Write (record { id = []; offset = 0; bytes = codes "abc" } ∷ record { id = []; offset = 3; bytes = codes "de" } ∷ [])

-- it makes its marks on n0, the active, and does its first element there
abbrev until_one_element_is_done : List Label
until_one_element_is_done =
    until_it_writes wr_active_replica_weak
    ++ labels.Began (call_numbered 3) (ops.Write 0 abc_then_de) None beside.Nothing
    ∷ write_step 3 opwords.Write verbs.Mark (Some 1) (Some 0)
    ∷ write_step 3 opwords.Write verbs.Element (Some 1) (Some 0)
    ∷ []

-- and its second
abbrev until_both_are_done : List Label
until_both_are_done = until_one_element_is_done ++ write_step 3 opwords.Write verbs.Element (Some 1) (Some 0) ∷ []

-- the bytes of each section on n0
abbrev section_bytes : Option ReplicaState → List (List ℕ)
section_bytes None = []
section_bytes (Some x) = map (λ (s : Section). s.bytes) x.sections

abbrev section_bytes_after : List Label → List (List ℕ)
section_bytes_after log = section_bytes ((last log).replicas 1 0)

-- how many elements its marks count as done
abbrev done_in : Option ReplicaState → Option ℕ
done_in None = None
done_in (Some x) = option_map (λ (marks : Marked). marks.done) x.marks

abbrev done_after : List Label → Option ℕ
done_after log = done_in ((last log).replicas 1 0)

-- between two elements the first stands there alone, and the active has no effect of it
pub one_element_is_there : section_bytes_after until_one_element_is_done ≡ codes "abc" ∷ []
one_element_is_there = refl

pub one_is_done : done_after until_one_element_is_done ≡ Some 1
one_is_done = refl

pub no_effect_of_an_element : effects_on until_one_element_is_done 0 ≡ Some []
no_effect_of_an_element = refl

pub both_are_there : section_bytes_after until_both_are_done ≡ codes "abcde" ∷ []
both_are_there = refl

pub no_effect_before_its_end : effects_on until_both_are_done 0 ≡ Some []
no_effect_before_its_end = refl

-- where its marks end, the active has its one effect, and none is marked
pub then_the_active_has_the_write : effects_on (until_both_are_done ++ end_of_marks ∷ []) 0 ≡ Some (Applied (call_numbered 3) abc_then_de (pos 0) ∷ [])
then_the_active_has_the_write = refl

pub and_no_marks : done_after (until_both_are_done ++ end_of_marks ∷ []) ≡ None
and_no_marks = refl

pub and_its_bytes : section_bytes_after (until_both_are_done ++ end_of_marks ∷ []) ≡ codes "abcde" ∷ []
and_its_bytes = refl

pub which_n1_has_not : effects_on (until_both_are_done ++ end_of_marks ∷ []) 1 ≡ Some []
which_n1_has_not = refl
