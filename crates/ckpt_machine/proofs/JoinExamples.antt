-- Worked scripts in which a node fails and joins, each a log that is a run by computation: a client enters there anew; and a synchronisation ends OK behind the failure of a node that it has served, whose new replica has not what was pulled.
use Rattle.std.proofs.Common.{◌≡◌, ℕ, ◌+◌, List, [], ◌∷◌, ◌++◌, Option, Some, None, true, false, pos, inl, inr, refl, arith}
use Rattle.std.specs.Option.{option_map}
use Rattle.std.specs.Prelude.{IfSome}
use Rattle.ckpt_types.specs.declared.answers.Answer.TheVariants as answers
use Rattle.ckpt_types.specs.declared.answers.Outcome.{Outcome}
use Rattle.ckpt_types.specs.declared.answers.Outcome.TheVariants.{Done}
use Rattle.ckpt_types.specs.declared.operation.Op.TheVariants as ops
use Rattle.ckpt_types.specs.declared.words.OpWord.TheVariants as opwords
use Rattle.ckpt_types.specs.Limits.{wr_active_replica, checkpoint_collocated, end_of_time}
use Rattle.node_msgs.specs.declared.details.Details.TheVariants as beside
use Rattle.node_msgs.specs.declared.steps.StepReply.TheVariants as words
use Rattle.node_msgs.specs.declared.steps.Verb.{Verb}
use Rattle.node_msgs.specs.declared.steps.Verb.TheVariants as verbs
use Rattle.run_labels.specs.declared.labels.Label.{Label}
use Rattle.run_labels.specs.declared.labels.Label.TheVariants as labels
use Rattle.cluster_record.specs.declared.clients.LiveClient.{LiveClient}
use Rattle.cluster_record.specs.Places.{find_key}
use Rattle.cluster_record.specs.RecordState.{client_key, entry_of}
use Rattle.ckpt_machine.specs.Due.{IsDue}
use Rattle.ckpt_machine.specs.Machine.{Applied}
use Rattle.ckpt_machine.specs.Runs.{last, IsRun}
use Rattle.ckpt_machine.specs.Synchronized.{IsServedIn, KeepsReplica}
use Rattle.ckpt_machine.proofs.AcknowledgedExamples.{call_numbered, answered_ok, abc, a_write}
use Rattle.ckpt_machine.proofs.ClaimExamples.{other_numbered}
use Rattle.ckpt_machine.proofs.CutRuns.{begins, enters, makes, opens, records, reserves, ends}
use Rattle.ckpt_machine.proofs.DueRuns.{played_is_run, due_behind}
use Rattle.ckpt_machine.proofs.FailureExamples.{third_numbered, effects_at, generation_at, active_and_generation}

-- ---- c1 is on n1, which fails and joins, and c1 enters there anew

abbrev until_it_enters : List Label
until_it_enters = labels.Nodes 2 ∷ enters (other_numbered 1) 1

abbrev n1_fails : Label
n1_fails = labels.Failed 1 true

-- in its second incarnation
abbrev n1_joins : Label
n1_joins = labels.Joined 1 (Some 2)

abbrev entering_anew : Label → Label → List Label
entering_anew first second = until_it_enters ++ first ∷ second ∷ enters (other_numbered 2) 1

pub an_initialize_behind_a_join_is_a_run : IsRun (entering_anew n1_fails n1_joins)
an_initialize_behind_a_join_is_a_run = played_is_run (entering_anew n1_fails n1_joins) (omega arith, omega arith, refl)

-- c1 is live in that incarnation
pub it_is_live_in_the_second : option_map (λ (live : LiveClient). live.incarnation) (find_key client_key 1 (last (entering_anew n1_fails n1_joins)).cluster.clients) ≡ Some 2
it_is_live_in_the_second = refl

-- with the join in front of the failure: n1 is up, and a join of it only tells that
pub a_join_before_the_failure_is_no_run : IsRun (entering_anew n1_joins n1_fails) → ⊥
a_join_before_the_failure_is_no_run run =
    let due = due_behind until_it_enters n1_joins (n1_fails ∷ enters (other_numbered 2) 1) run in
    let up : Some 2 ≡ None = due.1 in
    cc up

pub a_node_that_is_up_tells_so : IsDue (last until_it_enters) (labels.Joined 1 None)
a_node_that_is_up_tells_so = (omega arith, refl)

-- ---- a collocated checkpoint on three nodes: n1 is served by a synchronisation of c0, fails, joins, and is opened anew

-- each of three clients enters on a node of its own; c0 makes the checkpoint, and c1 and c2 open it; c0 sets the active on n0, and writes
abbrev until_it_is_written : List Label
until_it_is_written =
    labels.Nodes 3
    ∷ enters (call_numbered 1) 0
    ++ enters (other_numbered 1) 1
    ++ enters (third_numbered 1) 2
    ++ begins (call_numbered 2) (makes (wr_active_replica + checkpoint_collocated))
    ∷ records (call_numbered 2) verbs.Create None
    ∷ reserves 0
    ∷ records (call_numbered 2) verbs.Finish (Some (Done (answers.Opened 1)))
    ∷ begins (other_numbered 2) opens
    ∷ records (other_numbered 2) verbs.Open (Some (Done (answers.Opened 1)))
    ∷ begins (third_numbered 2) opens
    ∷ records (third_numbered 2) verbs.Open (Some (Done (answers.Opened 1)))
    ∷ begins (call_numbered 3) (ops.Active 0)
    ∷ labels.Stepped (call_numbered 3) opwords.Active verbs.Activate (Some 1) (Some 0) words.Ok answered_ok beside.Nothing
    ∷ begins (call_numbered 4) a_write
    ∷ ends (call_numbered 4) verbs.Apply 0
    ∷ []

-- a step of the synchronisation
abbrev syncs : Verb → ℕ → Option Outcome → Label
syncs verb r end = labels.Stepped (call_numbered 5) opwords.Sync verb (Some 1) (Some r) words.Ok end beside.Nothing

abbrev until_it_is_pulled : List Label
until_it_is_pulled = until_it_is_written ++ begins (call_numbered 5) (ops.Sync 0 end_of_time) ∷ syncs verbs.Pull 0 None ∷ []

-- n1 fails behind its installation, and n2 is served as the last one
abbrev behind_the_installation : List Label
behind_the_installation =
    n1_fails
    ∷ n1_joins
    ∷ enters (other_numbered 3) 1
    ++ begins (other_numbered 4) opens
    ∷ records (other_numbered 4) verbs.Open (Some (Done (answers.Opened 1)))
    ∷ syncs verbs.Install 2 (Some (Done (answers.Pulled 1)))
    ∷ []

abbrev synchronized : List Label
synchronized = until_it_is_pulled ++ syncs verbs.Install 1 None ∷ behind_the_installation

pub it_is_a_run : IsRun synchronized
it_is_a_run = played_is_run synchronized (omega arith, omega arith, refl)

-- the call has served n1, which is not the active, and n1 has failed since
pub n1_was_served : IsServedIn synchronized (call_numbered 5) 1 1
n1_was_served = record { before = until_it_is_pulled; behind = behind_the_installation; step = syncs verbs.Install 1 None; log_is = refl; step_is = (refl, refl, refl, refl) }

abbrev is_kept : Type 0
is_kept = IfSome (entry_of 1 (last synchronized).cluster.entries) (λ e. KeepsReplica e 1 behind_the_installation)

pub its_replica_is_another : is_kept → ⊥
its_replica_is_another (inl stays) = stays.0 refl
its_replica_is_another (inr (inl apart)) = let w : true ≡ false = apart in cc w
its_replica_is_another (inr (inr active)) = let w : Some 0 ≡ Some 1 = active in cc w

-- what was pulled is on n2, and not on n1, though that is complete, and of the present generation
pub n2_has_it : effects_at 2 (last synchronized) ≡ Some (Applied (call_numbered 4) abc (pos 0) ∷ [])
n2_has_it = refl

pub n1_has_it_not : effects_at 1 (last synchronized) ≡ Some []
n1_has_it_not = refl

pub in_the_present_generation : (active_and_generation (last synchronized) ≡ Some (Some 0, 2)) × (generation_at 1 (last synchronized) ≡ Some 2)
in_the_present_generation = (refl, refl)
