-- A worked run in which a replica loses what it had taken, by computation: the active failed that had brought it there, another node leads without it, and a put brings what this has.
use Rattle.std.proofs.Common.{◌≡◌, ℕ, ◌+◌, List, [], ◌∷◌, ◌++◌, Option, Some, None, codes, true, refl, pos, arith}
use Rattle.ckpt_types.specs.declared.answers.Answer.TheVariants as answers
use Rattle.ckpt_types.specs.declared.answers.Outcome.{Outcome}
use Rattle.ckpt_types.specs.declared.answers.Outcome.TheVariants.{Done}
use Rattle.ckpt_types.specs.declared.identities.ActorName.TheVariants.{Client}
use Rattle.ckpt_types.specs.declared.identities.CallId.{CallId}
use Rattle.ckpt_types.specs.declared.operation.Op.{Op}
use Rattle.ckpt_types.specs.declared.operation.Op.TheVariants as ops
use Rattle.ckpt_types.specs.declared.words.OpWord.{OpWord}
use Rattle.ckpt_types.specs.declared.words.OpWord.TheVariants as opwords
use Rattle.ckpt_types.specs.Limits.{checkpoint_write, checkpoint_create, end_of_time}
use Rattle.node_msgs.specs.declared.details.Details.TheVariants as beside
use Rattle.node_msgs.specs.declared.steps.StepReply.TheVariants as words
use Rattle.node_msgs.specs.declared.steps.Verb.{Verb}
use Rattle.node_msgs.specs.declared.steps.Verb.TheVariants as verbs
use Rattle.run_labels.specs.declared.labels.Label.{Label}
use Rattle.run_labels.specs.declared.labels.Label.TheVariants as labels
use Rattle.run_labels.specs.declared.labels.PullReply.TheVariants as pulls
use Rattle.run_labels.specs.declared.labels.PutReply.TheVariants as puts
use Rattle.ckpt_machine.specs.Machine.{Effect, Applied}
use Rattle.ckpt_machine.specs.Runs.{last, IsRun}
use Rattle.ckpt_machine.specs.Stays.{Replaces}
use Rattle.ckpt_machine.proofs.AcknowledgedExamples.{call_numbered, abc, a_write, effects_of}
use Rattle.ckpt_machine.proofs.ClaimExamples.{other_numbered, an_initialize, collocated_section}
use Rattle.ckpt_machine.proofs.DueRuns.{played_is_run}

-- ---- the words of the example

-- the calls of c2
abbrev third_numbered : ℕ → CallId
third_numbered n = record { actor = Client 2; number = n }

abbrev begins : CallId → Op → Label
begins call op = labels.Began call op None beside.Nothing

-- a step that ends its call, on the checkpoint, at a node or not
abbrev ends : CallId → OpWord → Verb → Option ℕ → Outcome → Label
ends call word verb r end = labels.Stepped call word verb (Some 1) r words.Ok (Some end) beside.Nothing

-- a client enters on a node
abbrev enters : CallId → ℕ → List Label
enters call r = begins call (an_initialize r) ∷ labels.Stepped call opwords.Client verbs.Enter None (Some r) words.Ok (Some (Done answers.Version)) beside.Nothing ∷ []

-- it opens the checkpoint
abbrev opens : CallId → List Label
opens call = begins call (ops.Open 0 (codes "ck") checkpoint_write end_of_time None) ∷ ends call opwords.Open verbs.Open None (Done (answers.Opened 1)) ∷ []

-- it sets its node as the active, and writes there
abbrev leads : CallId → ℕ → List Label
leads call r = begins call (ops.Active 0) ∷ ends call opwords.Active verbs.Activate (Some r) (Done answers.Nothing) ∷ []

abbrev writes : CallId → ℕ → List Label
writes call r = begins call a_write ∷ ends call opwords.Write verbs.Apply (Some r) (Done answers.Nothing) ∷ []

-- ---- the run

-- c0 on n0 makes a collocated checkpoint, and c1 on n1 and c2 on n2 open it; c0 leads, and writes
abbrev until_n0_has_it : List Label
until_n0_has_it =
    labels.Nodes 3
    ∷ enters (call_numbered 1) 0
    ++ enters (other_numbered 1) 1
    ++ enters (third_numbered 1) 2
    ++ begins (call_numbered 2) (ops.Open 0 (codes "ck") (checkpoint_write + checkpoint_create) end_of_time (Some collocated_section))
    ∷ labels.Stepped (call_numbered 2) opwords.Open verbs.Create (Some 1) None words.Ok None beside.Nothing
    ∷ labels.Stepped (call_numbered 2) opwords.Open verbs.Reserve (Some 1) (Some 0) words.Ok None beside.Nothing
    ∷ ends (call_numbered 2) opwords.Open verbs.Finish None (Done (answers.Opened 1))
    ∷ opens (other_numbered 2)
    ++ opens (third_numbered 2)
    ++ leads (call_numbered 3) 0
    ++ writes (call_numbered 4) 0

-- that is brought to n1; then n0 fails, c2 has n2 as the active, and writes there, which is pulled
abbrev until_n2_has_its_own : List Label
until_n2_has_its_own =
    until_n0_has_it
    ++ labels.Pulled 1 (pulls.Ok 1)
    ∷ labels.Put 1 1 (puts.Ok 1)
    ∷ labels.Failed 0 true
    ∷ leads (third_numbered 3) 2
    ++ writes (third_numbered 4) 2
    ++ labels.Pulled 1 (pulls.Ok 1)
    ∷ []

-- and put on n1, whose replica is older, though it has as many updates
abbrev the_put : Label
the_put = labels.Put 1 1 (puts.Ok 1)

pub it_is_a_run : IsRun (until_n2_has_its_own ++ the_put ∷ [])
it_is_a_run = played_is_run (until_n2_has_its_own ++ the_put ∷ []) (omega arith, omega arith, refl)

-- ---- what n1 has

abbrev effects_on_n1 : List Label → Option (List Effect)
effects_on_n1 log = effects_of ((last log).replicas 1 1)

pub it_had_the_first : effects_on_n1 until_n2_has_its_own ≡ Some (Applied (call_numbered 4) abc (pos 0) ∷ [])
it_had_the_first = refl

pub and_has_the_second : effects_on_n1 (until_n2_has_its_own ++ the_put ∷ []) ≡ Some (Applied (third_numbered 4) abc (pos 0) ∷ [])
and_has_the_second = refl

pub as_the_put_replaces_it : Replaces the_put 1 1
as_the_put_replaces_it = (refl, refl)
