-- Worked scripts with failures whose logs are runs, and are none with two labels exchanged, each by computation.
use Rattle.std.proofs.Common.{◌≡◌, ℕ, ◌+◌, List, [], ◌∷◌, ◌++◌, map, length, Option, Some, None, codes, true, pos, refl, arith}
use Rattle.ckpt_types.specs.declared.ais_error.AisError.TheVariants as errors
use Rattle.ckpt_types.specs.declared.answers.Answer.TheVariants as answers
use Rattle.ckpt_types.specs.declared.answers.Cause.TheVariants.{Holder}
use Rattle.ckpt_types.specs.declared.answers.Outcome.{Outcome}
use Rattle.ckpt_types.specs.declared.answers.Outcome.TheVariants.{Done, Refused}
use Rattle.ckpt_types.specs.declared.identities.CallId.{CallId}
use Rattle.ckpt_types.specs.declared.operation.Op.{Op}
use Rattle.ckpt_types.specs.declared.operation.Op.TheVariants as ops
use Rattle.ckpt_types.specs.declared.sections.SectionState.TheVariants.{Valid}
use Rattle.ckpt_types.specs.declared.update.Update.TheVariants as updates
use Rattle.ckpt_types.specs.declared.words.OpWord.TheVariants as opwords
use Rattle.ckpt_types.specs.Limits.{wr_all_replicas, wr_active_replica, checkpoint_read, checkpoint_write, checkpoint_create, end_of_time}
use Rattle.node_msgs.specs.declared.details.Details.TheVariants as beside
use Rattle.node_msgs.specs.declared.steps.StepReply.{StepReply}
use Rattle.node_msgs.specs.declared.steps.StepReply.TheVariants as words
use Rattle.node_msgs.specs.declared.steps.Verb.{Verb}
use Rattle.node_msgs.specs.declared.steps.Verb.TheVariants as verbs
use Rattle.run_labels.specs.declared.labels.Label.{Label}
use Rattle.run_labels.specs.declared.labels.Label.TheVariants as labels
use Rattle.run_labels.specs.declared.labels.PullReply.TheVariants as pulls
use Rattle.run_labels.specs.declared.labels.PutReply.TheVariants as puts
use Rattle.run_labels.specs.declared.shown.ShownSlot.TheVariants as slots
use Rattle.ckpt_machine.specs.Due.{IsDue}
use Rattle.ckpt_machine.specs.Runs.{last, IsRun}
use Rattle.ckpt_machine.proofs.AcknowledgedExamples.{call_numbered, answered_ok}
use Rattle.ckpt_machine.proofs.ClaimExamples.{other_numbered, an_initialize}
use Rattle.ckpt_machine.proofs.DueRuns.{played_is_run, label_due, due_behind, none_in_hand, served_next}
use Rattle.ckpt_machine.proofs.RunExamples.{sized}

-- ---- the words of the scripts

-- a call begins, and goes on
abbrev pub begins : CallId → Op → Label
begins call op = labels.Began call op None beside.Nothing

-- a client enters on a node
abbrev pub enters : CallId → ℕ → List Label
enters call r =
    begins call (an_initialize r)
    ∷ labels.Stepped call opwords.Client verbs.Enter None (Some r) words.Ok (Some (Done answers.Version)) beside.Nothing
    ∷ []

-- c0 opens a checkpoint with these flags that is not there, with one section of at most 16 bytes, and c1 opens it
abbrev pub makes : ℕ → Op
makes flags = ops.Open 0 (codes "ck") (checkpoint_read + checkpoint_write + checkpoint_create) end_of_time (Some (record (sized 16 1) { creation_flags = flags }))

abbrev pub opens : Op
opens = ops.Open 0 (codes "ck") checkpoint_write end_of_time None

-- a step of an open, of the record and at a node
abbrev pub records : CallId → Verb → Option Outcome → Label
records call verb end = labels.Stepped call opwords.Open verb (Some 1) None words.Ok end beside.Nothing

abbrev pub reserves : ℕ → Label
reserves r = labels.Stepped (call_numbered 2) opwords.Open verbs.Reserve (Some 1) (Some r) words.Ok None beside.Nothing

-- a write of these bytes from there on, a step of it by which it goes on, and the one that ends it OK
abbrev pub writes : ℕ → List ℕ → Op
writes offset bytes = ops.Write 0 (updates.Write (record { id = []; offset = offset; bytes = bytes } ∷ []))

abbrev pub step : CallId → Verb → ℕ → StepReply → Label
step call verb r reply = labels.Stepped call opwords.Write verb (Some 1) (Some r) reply None beside.Nothing

abbrev pub ends : CallId → Verb → ℕ → Label
ends call verb r = labels.Stepped call opwords.Write verb (Some 1) (Some r) words.Ok answered_ok beside.Nothing

-- a read of c0 of all that is there, and its step at a node, which gives these bytes
abbrev pub reads : ℕ → Label
reads n = begins (call_numbered n) (ops.Read 0 (record { id = []; offset = 0; len = 16 } ∷ []))

abbrev pub gives : ℕ → ℕ → List ℕ → Label
gives n r bytes = labels.Stepped (call_numbered n) opwords.Read verbs.Read (Some 1) (Some r) words.Ok (Some (Done answers.Pieces)) (beside.Pieces (bytes ∷ []))

-- ---- a checkpoint that is made

-- these nodes come up, these clients enter, and c0 makes a checkpoint with these flags
abbrev pub made : List ℕ → List Label → ℕ → List Label
made nodes clients flags =
    labels.Nodes (length nodes)
    ∷ clients
    ++ begins (call_numbered 2) (makes flags)
    ∷ records (call_numbered 2) verbs.Create None
    ∷ map reserves nodes
    ++ records (call_numbered 2) verbs.Finish (Some (Done (answers.Opened 1)))
    ∷ []

-- c0 on a node and c1 on n1, which opens it
abbrev both : List ℕ → ℕ → List Label
both nodes r =
    made nodes (enters (call_numbered 1) r ++ enters (other_numbered 1) 1) wr_all_replicas
    ++ begins (other_numbered 2) opens
    ∷ records (other_numbered 2) verbs.Open (Some (Done (answers.Opened 1)))
    ∷ []

-- on three nodes c0 has written, and c1 begins to write too
abbrev written : ℕ → List Label
written r =
    both (0 ∷ 1 ∷ 2 ∷ []) r
    ++ begins (call_numbered 3) (writes 0 (codes "old"))
    ∷ step (call_numbered 3) verbs.Stage 0 words.Ok
    ∷ step (call_numbered 3) verbs.Stage 1 words.Ok
    ∷ step (call_numbered 3) verbs.Stage 2 words.Ok
    ∷ step (call_numbered 3) verbs.Commit 2 words.Ok
    ∷ step (call_numbered 3) verbs.Commit 1 words.Ok
    ∷ ends (call_numbered 3) verbs.Commit 0
    ∷ begins (other_numbered 3) (writes 0 (codes "new"))
    ∷ step (other_numbered 3) verbs.Stage 0 words.Ok
    ∷ step (other_numbered 3) verbs.Stage 1 words.Ok
    ∷ []

-- ---- c1 has staged on two of three when its node fails, and c0 writes behind it: its slot is claimed, and withdrawn

abbrev until_it_claims : List Label
until_it_claims =
    written 0
    ++ labels.Failed 1 true
    ∷ reads 4
    ∷ gives 4 0 (codes "old")
    ∷ begins (call_numbered 5) (writes 3 (codes "!"))
    ∷ step (call_numbered 5) verbs.Stage 0 (words.Held (other_numbered 3))
    ∷ step (call_numbered 5) verbs.Claim 0 words.Ok
    ∷ []

-- the next replica has no slot, and no more updates than n0: so what it has claimed is withdrawn
abbrev meets_none : Label
meets_none = step (call_numbered 5) verbs.Claim 2 (words.Free 1)

abbrev withdraws : Label
withdraws = step (call_numbered 5) verbs.Withdraw 0 words.Ok

-- then c0 stages its own update, commits it, and reads the bytes
abbrev its_own : List ℕ → List Label
its_own bytes =
    step (call_numbered 5) verbs.Stage 0 words.Ok
    ∷ step (call_numbered 5) verbs.Stage 2 words.Ok
    ∷ step (call_numbered 5) verbs.Commit 2 words.Ok
    ∷ ends (call_numbered 5) verbs.Commit 0
    ∷ reads 6
    ∷ gives 6 0 bytes
    ∷ []

abbrev withdrawing : Label → Label → List Label
withdrawing first second = until_it_claims ++ first ∷ second ∷ its_own (codes "old!")

pub a_claim_that_is_withdrawn_is_a_run : IsRun (withdrawing meets_none withdraws)
a_claim_that_is_withdrawn_is_a_run = played_is_run (withdrawing meets_none withdraws) (omega arith, omega arith, refl)

-- with the withdrawal in front of the replica that has no slot: behind its first claim it claims on
pub a_withdrawal_that_comes_too_soon_is_no_run : IsRun (withdrawing withdraws meets_none) → ⊥
a_withdrawal_that_comes_too_soon_is_no_run run =
    let due = due_behind until_it_claims withdraws (meets_none ∷ its_own (codes "old!")) run in
    let verb : verbs.Withdraw ≡ verbs.Claim = (served_next (last until_it_claims) (call_numbered 5) opwords.Write _ _ _ _ refl refl due).0 in
    cc verb

-- ---- c1 has committed on one of three when its node fails: its slot is claimed, and committed

abbrev until_it_is_held : List Label
until_it_is_held =
    written 0
    ++ step (other_numbered 3) verbs.Stage 2 words.Ok
    ∷ step (other_numbered 3) verbs.Commit 2 words.Ok
    ∷ labels.Failed 1 true
    ∷ reads 4
    ∷ gives 4 0 (codes "old")
    ∷ begins (call_numbered 5) (writes 3 (codes "!"))
    ∷ step (call_numbered 5) verbs.Stage 0 (words.Held (other_numbered 3))
    ∷ []

abbrev claims : Label
claims = step (call_numbered 5) verbs.Claim 0 words.Ok

-- the replica without a slot has one update more than n0
abbrev has_one_more : Label
has_one_more = step (call_numbered 5) verbs.Claim 2 (words.Free 2)

-- so what it has claimed is committed, as the update of c1
abbrev commits : Label
commits = step (call_numbered 5) verbs.Commit 0 words.Ok

abbrev resolving : Label → Label → List Label
resolving first second = until_it_is_held ++ first ∷ has_one_more ∷ second ∷ its_own (codes "new!")

pub a_claim_that_is_committed_is_a_run : IsRun (resolving claims commits)
a_claim_that_is_committed_is_a_run = played_is_run (resolving claims commits) (omega arith, omega arith, refl)

-- with the commit in front of the claim: the slot is of c1 still
pub a_commit_before_its_claim_is_no_run : IsRun (resolving commits claims) → ⊥
a_commit_before_its_claim_is_no_run run =
    let due = due_behind until_it_is_held commits (has_one_more ∷ claims ∷ its_own (codes "new!")) run in
    let verb : verbs.Commit ≡ verbs.Claim = (served_next (last until_it_is_held) (call_numbered 5) opwords.Write _ _ _ _ refl refl due).0 in
    cc verb

-- ---- c1 has committed on n2 when n0 fails, and n1 with it: the one replica that is left has its update

abbrev until_it_is_staged : List Label
until_it_is_staged = written 2 ++ step (other_numbered 3) verbs.Stage 2 words.Ok ∷ []

abbrev first_commit : Label
first_commit = step (other_numbered 3) verbs.Commit 2 words.Ok

-- c0, which is on n2, reads it there, and n2 leads in the third generation
abbrev what_is_left : List Label
what_is_left =
    reads 4
    ∷ gives 4 2 (codes "new")
    ∷ labels.Shown 1 (Some (record {
      node = 2;
      active = true;
      generation = 3;
      count = 2;
      slot = slots.Free;
      sections = record { descriptor = record { id = []; expiration = end_of_time; size = 3; state = Valid; last_update = pos 0 }; first = codes "new" } ∷ [];
    } ∷ []))
    ∷ []

abbrev failing_twice : Label → Label → List Label
failing_twice first second = until_it_is_staged ++ first ∷ labels.Failed 0 true ∷ second ∷ what_is_left

pub two_failures_behind_a_commit_are_a_run : IsRun (failing_twice first_commit (labels.Failed 1 true))
two_failures_behind_a_commit_are_a_run = played_is_run (failing_twice first_commit (labels.Failed 1 true)) (omega arith, omega arith, refl)

-- with the failure of its client's node in front of the commit: no call is left that commits
pub a_commit_behind_its_clients_node_is_no_run : IsRun (failing_twice (labels.Failed 1 true) first_commit) → ⊥
a_commit_behind_its_clients_node_is_no_run run =
    let front = until_it_is_staged ++ labels.Failed 1 true ∷ labels.Failed 0 true ∷ [] in
    none_in_hand (last front) (other_numbered 3) opwords.Write _ refl (due_behind front first_commit what_is_left run)

-- ---- on two nodes c0 has staged on n0, so c1 is to try again; it does when n0 fails

-- held there by a call that is live
abbrev is_held : Label
is_held =
    labels.Stepped (other_numbered 3) opwords.Write verbs.Stage (Some 1) (Some 0) (words.Held (call_numbered 3))
    (Some (Refused errors.TryAgain (Holder (call_numbered 3)))) beside.Nothing

abbrev until_it_is_to_try_again : List Label
until_it_is_to_try_again =
    both (0 ∷ 1 ∷ []) 0
    ++ begins (call_numbered 3) (writes 0 (codes "old"))
    ∷ step (call_numbered 3) verbs.Stage 0 words.Ok
    ∷ begins (other_numbered 3) (writes 0 (codes "new"))
    ∷ is_held
    ∷ []

abbrev n0_fails : Label
n0_fails = labels.Failed 0 true

abbrev tries_again : Label
tries_again = begins (other_numbered 4) (writes 0 (codes "new"))

-- n1 is left alone, and has no slot
abbrev stages_on_n1 : Label
stages_on_n1 = step (other_numbered 4) verbs.Stage 1 words.Ok

abbrev trying_again : Label → Label → Label → List Label
trying_again first second third = until_it_is_to_try_again ++ first ∷ second ∷ third ∷ ends (other_numbered 4) verbs.Commit 1 ∷ []

pub a_write_that_is_tried_again_is_a_run : IsRun (trying_again n0_fails tries_again stages_on_n1)
a_write_that_is_tried_again_is_a_run = played_is_run (trying_again n0_fails tries_again stages_on_n1) (omega arith, omega arith, refl)

-- and so is one that began before the failure
pub it_may_begin_before_the_failure : IsRun (trying_again tries_again n0_fails stages_on_n1)
it_may_begin_before_the_failure = played_is_run (trying_again tries_again n0_fails stages_on_n1) (omega arith, omega arith, refl)

-- with its stage in front of the failure too: it would be on n0, and held there once more
pub a_stage_before_the_failure_is_no_run : IsRun (trying_again tries_again stages_on_n1 n0_fails) → ⊥
a_stage_before_the_failure_is_no_run run =
    let front = until_it_is_to_try_again ++ tries_again ∷ [] in
    let due = due_behind front stages_on_n1 (n0_fails ∷ ends (other_numbered 4) verbs.Commit 1 ∷ []) run in
    let node : Some 1 ≡ Some 0 = (served_next (last front) (other_numbered 4) opwords.Write _ _ _ _ refl refl due).1 in
    cc node

-- ---- updates go to the active alone: what was brought to n1 is left when n0 fails, and is brought to n2 by another pull

abbrev until_n0_has_two : List Label
until_n0_has_two =
    made (0 ∷ 1 ∷ 2 ∷ []) (enters (call_numbered 1) 2) wr_active_replica
    ++ begins (call_numbered 3) (writes 0 (codes "one"))
    ∷ ends (call_numbered 3) verbs.Apply 0
    ∷ labels.Pulled 1 (pulls.Ok 1)
    ∷ labels.Put 1 1 (puts.Ok 1)
    ∷ begins (call_numbered 4) (writes 0 (codes "two"))
    ∷ ends (call_numbered 4) verbs.Apply 0
    ∷ []

abbrev gives_one : Label
gives_one = gives 5 1 (codes "one")

-- the snapshot was pulled in the generation before, and one that is pulled now is of the present one
abbrev brought_again : List Label
brought_again = labels.Put 1 2 (puts.Stale 1 2) ∷ labels.Pulled 1 (pulls.Ok 1) ∷ labels.Put 1 2 (puts.Ok 1) ∷ []

abbrev leading : Label → Label → Label → List Label
leading first second third = until_n0_has_two ++ first ∷ second ∷ third ∷ brought_again

pub a_node_that_leads_with_what_it_has_is_a_run : IsRun (leading n0_fails (reads 5) gives_one)
a_node_that_leads_with_what_it_has_is_a_run = played_is_run (leading n0_fails (reads 5) gives_one) (omega arith, omega arith, refl)

-- and so is a read that began before the failure
pub the_read_may_begin_before_it : IsRun (leading (reads 5) n0_fails gives_one)
the_read_may_begin_before_it = played_is_run (leading (reads 5) n0_fails gives_one) (omega arith, omega arith, refl)

-- with its step in front of the failure too: n0 is asked, and gives what was written last
pub a_read_before_the_failure_is_no_run : IsRun (leading (reads 5) gives_one n0_fails) → ⊥
a_read_before_the_failure_is_no_run run =
    let front = until_n0_has_two ++ reads 5 ∷ [] in
    let due = due_behind front gives_one (n0_fails ∷ brought_again) run in
    let node : Some 1 ≡ Some 0 = (served_next (last front) (call_numbered 5) opwords.Read _ _ _ _ refl refl due).1 in
    cc node

pub it_gives_two_there : IsDue (last (until_n0_has_two ++ reads 5 ∷ [])) (gives 5 0 (codes "two"))
it_gives_two_there = label_due (last (until_n0_has_two ++ reads 5 ∷ [])) (gives 5 0 (codes "two")) refl
