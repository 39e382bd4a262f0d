-- Worked scripts in which a node that has failed joins and copies, each a log that is a run by computation, and none with two labels exchanged.
use Rattle.std.proofs.Common.{◌≡◌, ℕ, ◌+◌, List, [], ◌∷◌, ◌++◌, map, Some, None, codes, Bool, true, false, pos, refl, arith}
use Rattle.ckpt_types.specs.declared.ais_error.AisError.TheVariants as errors
use Rattle.ckpt_types.specs.declared.answers.Cause.TheVariants.{Generations, Holder}
use Rattle.ckpt_types.specs.declared.answers.Outcome.TheVariants.{Refused}
use Rattle.ckpt_types.specs.declared.identities.ActorName.TheVariants.{Node}
use Rattle.ckpt_types.specs.declared.identities.CallId.{CallId}
use Rattle.ckpt_types.specs.declared.operation.Op.TheVariants as ops
use Rattle.ckpt_types.specs.declared.sections.SectionState.TheVariants.{Valid}
use Rattle.ckpt_types.specs.declared.update.Update.{Update}
use Rattle.ckpt_types.specs.declared.update.Update.TheVariants as updates
use Rattle.ckpt_types.specs.declared.words.OpWord.TheVariants as opwords
use Rattle.ckpt_types.specs.Limits.{wr_all_replicas, wr_active_replica, checkpoint_collocated, end_of_time}
use Rattle.node_msgs.specs.declared.details.Details.TheVariants as beside
use Rattle.node_msgs.specs.declared.steps.StepReply.TheVariants as words
use Rattle.node_msgs.specs.declared.steps.Verb.{Verb}
use Rattle.node_msgs.specs.declared.steps.Verb.TheVariants as verbs
use Rattle.run_labels.specs.declared.labels.Label.{Label}
use Rattle.run_labels.specs.declared.labels.Label.TheVariants as labels
use Rattle.run_labels.specs.declared.shown.ShownReplica.{ShownReplica}
use Rattle.run_labels.specs.declared.shown.ShownSlot.TheVariants as slots
use Rattle.ckpt_machine.specs.Due.{IsDue}
use Rattle.ckpt_machine.specs.Machine.{Effect, Applied}
use Rattle.ckpt_machine.specs.Runs.{last, IsRun}
use Rattle.ckpt_machine.proofs.AcknowledgedExamples.{call_numbered, answered_ok}
use Rattle.ckpt_machine.proofs.CutRuns.{begins, enters, made, reads, gives, step, ends, writes}
use Rattle.ckpt_machine.proofs.DueRuns.{played_is_run, label_due, due_behind, event_next, none_in_hand, served_next}
use Rattle.ckpt_machine.proofs.FailureExamples.{effects_at}

-- ---- the words of the scripts

-- the copying of a node with this number
abbrev copying : ℕ → ℕ → CallId
copying r n = record { actor = Node r; number = n }

-- a step of it at a node, by which it goes on, and the one that ends it OK
abbrev goes : CallId → Verb → ℕ → Label
goes call verb r = labels.Stepped call opwords.Copy verb (Some 1) (Some r) words.Ok None beside.Nothing

abbrev finishes : CallId → Verb → ℕ → Label
finishes call verb r = labels.Stepped call opwords.Copy verb (Some 1) (Some r) words.Ok answered_ok beside.Nothing

-- it finds nothing to do
abbrev finds_nothing : CallId → Label
finds_nothing call = labels.Stepped call opwords.Copy verbs.Look None None words.Done answered_ok beside.Nothing

-- a node fails, joins in this incarnation, and begins to copy with this number
abbrev comes_back : ℕ → ℕ → ℕ → List Label
comes_back r incarnation n = labels.Failed r true ∷ labels.Joined r (Some incarnation) ∷ begins (copying r n) ops.Copy ∷ []

-- what c0 has written
abbrev written : List ℕ → Update
written bytes = updates.Write (record { id = []; offset = 0; bytes = bytes } ∷ [])

-- ---- updates go to all replicas: c0 has written on three nodes when n2 comes back

abbrev until_n2_copies : List Label
until_n2_copies =
    made (0 ∷ 1 ∷ 2 ∷ []) (enters (call_numbered 1) 0) wr_all_replicas
    ++ begins (call_numbered 3) (writes 0 (codes "one"))
    ∷ step (call_numbered 3) verbs.Stage 0 words.Ok
    ∷ step (call_numbered 3) verbs.Stage 1 words.Ok
    ∷ step (call_numbered 3) verbs.Stage 2 words.Ok
    ∷ step (call_numbered 3) verbs.Commit 2 words.Ok
    ∷ step (call_numbered 3) verbs.Commit 1 words.Ok
    ∷ ends (call_numbered 3) verbs.Commit 0
    ∷ comes_back 2 2 1

-- it reserves, and has its slot on both complete nodes
abbrev until_it_is_staged : List Label
until_it_is_staged = until_n2_copies ++ goes (copying 2 1) verbs.Reserve 2 ∷ goes (copying 2 1) verbs.Stage 0 ∷ goes (copying 2 1) verbs.Stage 1 ∷ []

abbrev pulls : Label
pulls = goes (copying 2 1) verbs.Pull 0

-- n2 is complete, and has the slot of the copying too
abbrev completes : Label
completes = goes (copying 2 1) verbs.Complete 2

abbrev commits : List Label
commits = goes (copying 2 1) verbs.Commit 2 ∷ goes (copying 2 1) verbs.Commit 1 ∷ finishes (copying 2 1) verbs.Commit 0 ∷ []

abbrev to_all : Label → Label → List Label
to_all first second = until_it_is_staged ++ first ∷ second ∷ commits

pub a_copying_where_updates_go_to_all_is_a_run : IsRun (to_all pulls completes)
a_copying_where_updates_go_to_all_is_a_run = played_is_run (to_all pulls completes) (omega arith, omega arith, refl)

-- with the completion in front of the pull: it has nothing in hand
pub a_completion_before_its_pull_is_no_run : IsRun (to_all completes pulls) → ⊥
a_completion_before_its_pull_is_no_run run =
    let due = due_behind until_it_is_staged completes (pulls ∷ commits) run in
    let verb : verbs.Complete ≡ verbs.Pull = (served_next (last until_it_is_staged) (copying 2 1) opwords.Copy _ _ _ _ refl refl due).0 in
    cc verb

-- n2 has what c0 has written, and all three have the update of the copying, which changes nothing
abbrev one_and_nothing : List Effect
one_and_nothing = Applied (call_numbered 3) (written (codes "one")) (pos 0) ∷ Applied (copying 2 1) updates.Nothing (pos 0) ∷ []

pub all_three_have_both : map (λ r. effects_at r (last (to_all pulls completes))) (0 ∷ 1 ∷ 2 ∷ []) ≡ Some one_and_nothing ∷ Some one_and_nothing ∷ Some one_and_nothing ∷ []
all_three_have_both = refl

-- meanwhile the slot of the copying keeps an update off
abbrev is_held : Label
is_held =
    labels.Stepped (call_numbered 4) opwords.Write verbs.Stage (Some 1) (Some 0) (words.Held (copying 2 1))
    (Some (Refused errors.TryAgain (Holder (copying 2 1)))) beside.Nothing

abbrev another_writes : List Label
another_writes = until_it_is_staged ++ begins (call_numbered 4) (writes 0 (codes "two")) ∷ []

pub a_write_is_to_try_again : IsDue (last another_writes) is_held
a_write_is_to_try_again = label_due (last another_writes) is_held refl

-- ---- updates go to the active alone: n0, the active, has what c0 has written when n2 comes back

abbrev until_n2_reserves : List Label
until_n2_reserves =
    made (0 ∷ 1 ∷ 2 ∷ []) (enters (call_numbered 1) 0) wr_active_replica
    ++ begins (call_numbered 3) (writes 0 (codes "one"))
    ∷ ends (call_numbered 3) verbs.Apply 0
    ∷ comes_back 2 2 1
    ++ goes (copying 2 1) verbs.Reserve 2
    ∷ []

-- the active writes on meanwhile
abbrev writes_on : List Label
writes_on = begins (call_numbered 4) (writes 0 (codes "two")) ∷ ends (call_numbered 4) verbs.Apply 0 ∷ []

-- with the completion the copying has nothing left to do
abbrev from_the_active : List Label → List Label → List Label
from_the_active before behind = until_n2_reserves ++ before ++ pulls ∷ behind ++ finishes (copying 2 1) verbs.Complete 2 ∷ []

pub a_copying_from_the_active_is_a_run : IsRun (from_the_active writes_on [])
a_copying_from_the_active_is_a_run = played_is_run (from_the_active writes_on []) (omega arith, omega arith, refl)

pub and_so_is_one_with_a_write_behind_its_pull : IsRun (from_the_active [] writes_on)
and_so_is_one_with_a_write_behind_its_pull = played_is_run (from_the_active [] writes_on) (omega arith, omega arith, refl)

-- n2 has what n0 had when it was pulled
abbrev one : List Effect
one = Applied (call_numbered 3) (written (codes "one")) (pos 0) ∷ []

abbrev one_and_two : List Effect
one_and_two = one ++ Applied (call_numbered 4) (written (codes "two")) (pos 0) ∷ []

pub what_was_written_before_it : map (λ r. effects_at r (last (from_the_active writes_on []))) (0 ∷ 1 ∷ 2 ∷ []) ≡ Some one_and_two ∷ Some [] ∷ Some one_and_two ∷ []
what_was_written_before_it = refl

pub and_not_what_was_written_behind : map (λ r. effects_at r (last (from_the_active [] writes_on))) (0 ∷ 1 ∷ 2 ∷ []) ≡ Some one_and_two ∷ Some [] ∷ Some one ∷ []
and_not_what_was_written_behind = refl

-- ---- nothing is lacking

-- n1 has not failed
abbrev without_a_failure : List Label
without_a_failure = labels.Nodes 2 ∷ begins (copying 1 1) ops.Copy ∷ finds_nothing (copying 1 1) ∷ []

pub a_copying_of_nothing_is_a_run : IsRun without_a_failure
a_copying_of_nothing_is_a_run = played_is_run without_a_failure (omega arith, omega arith, refl)

-- n1 comes back, and a collocated checkpoint is none of its own
abbrev with_a_collocated : List Label
with_a_collocated =
    made (0 ∷ []) (enters (call_numbered 1) 0) (wr_active_replica + checkpoint_collocated)
    ++ labels.Joined 1 (Some 1)
    ∷ begins (copying 1 1) ops.Copy
    ∷ finds_nothing (copying 1 1)
    ∷ []

pub a_copying_of_no_collocated_checkpoint_is_a_run : IsRun with_a_collocated
a_copying_of_no_collocated_checkpoint_is_a_run = played_is_run with_a_collocated (omega arith, omega arith, refl)

-- ---- the active fails behind the pull: the copying is to try again, and copies what leads then

-- a replica with one section of these bytes and no slot
abbrev replica : ℕ → Bool → ℕ → ℕ → List ℕ → ℕ → ShownReplica
replica r active generation count bytes size = record {
  node = r;
  active = active;
  generation = generation;
  count = count;
  slot = slots.Free;
  sections = record { descriptor = record { id = []; expiration = end_of_time; size = size; state = Valid; last_update = pos 0 }; first = bytes } ∷ [];
}

abbrev until_it_has_pulled : List Label
until_it_has_pulled =
    made (0 ∷ 1 ∷ 2 ∷ []) (enters (call_numbered 1) 2) wr_active_replica
    ++ begins (call_numbered 3) (writes 0 (codes "one"))
    ∷ ends (call_numbered 3) verbs.Apply 0
    ∷ comes_back 1 2 1
    ++ goes (copying 1 1) verbs.Reserve 1
    ∷ goes (copying 1 1) verbs.Pull 0
    ∷ []

abbrev n0_fails : Label
n0_fails = labels.Failed 0 true

-- what was pulled is of the generation before
abbrev is_too_old : Label
is_too_old = labels.Stepped (copying 1 1) opwords.Copy verbs.Look None None words.Refused (Some (Refused errors.TryAgain (Generations 1 2))) beside.Nothing

-- n2 leads, and has nothing; its reservation stands, and is used again
abbrev tries_again : List Label
tries_again =
    begins (copying 1 2) ops.Copy
    ∷ goes (copying 1 2) verbs.Reserve 1
    ∷ goes (copying 1 2) verbs.Pull 2
    ∷ finishes (copying 1 2) verbs.Complete 1
    ∷ reads 4
    ∷ gives 4 2 []
    ∷ labels.Shown 1 (Some (replica 1 false 2 0 [] 0 ∷ replica 2 true 2 0 [] 0 ∷ []))
    ∷ []

abbrev trying_again : Label → Label → List Label
trying_again first second = until_it_has_pulled ++ first ∷ second ∷ tries_again

pub a_copying_that_is_tried_again_is_a_run : IsRun (trying_again n0_fails is_too_old)
a_copying_that_is_tried_again_is_a_run = played_is_run (trying_again n0_fails is_too_old) (omega arith, omega arith, refl)

-- with the refusal in front of the failure: it is to complete
pub a_refusal_before_the_failure_is_no_run : IsRun (trying_again is_too_old n0_fails) → ⊥
a_refusal_before_the_failure_is_no_run run =
    let due = due_behind until_it_has_pulled is_too_old (n0_fails ∷ tries_again) run in
    let verb : verbs.Look ≡ verbs.Complete = (event_next (last until_it_has_pulled) (copying 1 1) opwords.Copy _ _ _ refl refl due) in
    cc verb

-- ---- the copying fails with its node, which joins again: its slot is of a call that is gone, and the next write commits it

abbrev until_it_fails : List Label
until_it_fails =
    made (0 ∷ 1 ∷ []) (enters (call_numbered 1) 0) wr_all_replicas
    ++ comes_back 1 2 1
    ++ goes (copying 1 1) verbs.Reserve 1
    ∷ goes (copying 1 1) verbs.Stage 0
    ∷ labels.Failed 1 true
    ∷ labels.Joined 1 (Some 3)
    ∷ begins (call_numbered 3) (writes 0 (codes "a"))
    ∷ step (call_numbered 3) verbs.Stage 0 (words.Held (copying 1 1))
    ∷ []

-- n0 alone is complete, and all that is complete has the slot
abbrev claims : Label
claims = step (call_numbered 3) verbs.Claim 0 words.Ok

abbrev settles : Label
settles = step (call_numbered 3) verbs.Commit 0 words.Ok

-- the next copying of n1 has the next number
abbrev copies_anew : List Label
copies_anew =
    step (call_numbered 3) verbs.Stage 0 words.Ok
    ∷ ends (call_numbered 3) verbs.Commit 0
    ∷ begins (copying 1 2) ops.Copy
    ∷ goes (copying 1 2) verbs.Reserve 1
    ∷ goes (copying 1 2) verbs.Stage 0
    ∷ goes (copying 1 2) verbs.Pull 0
    ∷ goes (copying 1 2) verbs.Complete 1
    ∷ goes (copying 1 2) verbs.Commit 1
    ∷ finishes (copying 1 2) verbs.Commit 0
    ∷ labels.Shown 1 (Some (replica 0 true 1 3 (codes "a") 1 ∷ replica 1 false 1 3 (codes "a") 1 ∷ []))
    ∷ []

abbrev failing : Label → Label → List Label
failing first second = until_it_fails ++ first ∷ second ∷ copies_anew

pub a_copying_that_fails_is_a_run : IsRun (failing claims settles)
a_copying_that_fails_is_a_run = played_is_run (failing claims settles) (omega arith, omega arith, refl)

-- with the commit in front of the claim: the slot is of the copying still
pub a_commit_before_its_claim_is_no_run : IsRun (failing settles claims) → ⊥
a_commit_before_its_claim_is_no_run run =
    let due = due_behind until_it_fails settles (claims ∷ copies_anew) run in
    let verb : verbs.Commit ≡ verbs.Claim = (served_next (last until_it_fails) (call_numbered 3) opwords.Write _ _ _ _ refl refl due).0 in
    cc verb

-- both have the update of the first copying, the write, and the update of the second
abbrev three : List Effect
three = Applied (copying 1 1) updates.Nothing (pos 0) ∷ Applied (call_numbered 3) (written (codes "a")) (pos 0) ∷ Applied (copying 1 2) updates.Nothing (pos 0) ∷ []

pub both_have_three : map (λ r. effects_at r (last (failing claims settles))) (0 ∷ 1 ∷ []) ≡ Some three ∷ Some three ∷ []
both_have_three = refl

-- behind the failure of its node no step of the first is due
pub its_first_copying_is_gone : IsDue (last until_it_fails) (goes (copying 1 1) verbs.Pull 0) → ⊥
its_first_copying_is_gone due = none_in_hand (last until_it_fails) (copying 1 1) opwords.Copy _ refl due
