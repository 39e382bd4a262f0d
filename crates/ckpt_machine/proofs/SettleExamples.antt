-- Worked runs with a failure, by computation: an update that is cut short is claimed by the next one, and withdrawn, or committed; and one whose last slots fall with their nodes ends by a look.
use Rattle.std.proofs.Common.{◌≡◌, ℕ, List, [], ◌∷◌, ◌++◌, Option, Some, None, true, pos, inl, inr, refl}
use Rattle.std.specs.Option.{option_map}
use Rattle.ckpt_types.specs.declared.answers.Answer.TheVariants as answers
use Rattle.ckpt_types.specs.declared.answers.Outcome.TheVariants.{Done}
use Rattle.ckpt_types.specs.declared.identities.ActorName.TheVariants.{Client}
use Rattle.ckpt_types.specs.declared.identities.Who.TheVariants.{Actor}
use Rattle.ckpt_types.specs.declared.operation.Op.TheVariants as ops
use Rattle.ckpt_types.specs.declared.words.OpWord.TheVariants as opwords
use Rattle.ckpt_types.specs.Limits.{wr_all_replicas}
use Rattle.node_msgs.specs.declared.details.Details.TheVariants as beside
use Rattle.node_msgs.specs.declared.next.Next.{Next}
use Rattle.node_msgs.specs.declared.next.Next.TheVariants.{Serve, End}
use Rattle.node_msgs.specs.declared.requests.Request.TheVariants as requests
use Rattle.node_msgs.specs.declared.steps.StepReply.{StepReply}
use Rattle.node_msgs.specs.declared.steps.StepReply.TheVariants as words
use Rattle.node_msgs.specs.declared.steps.Verb.{Verb}
use Rattle.node_msgs.specs.declared.steps.Verb.TheVariants as verbs
use Rattle.run_labels.specs.declared.labels.Label.{Label}
use Rattle.run_labels.specs.declared.labels.Label.TheVariants as labels
use Rattle.ckpt_machine.specs.CallsEnd.{failure}
use Rattle.ckpt_machine.specs.Due.{due}
use Rattle.ckpt_machine.specs.InOrder.{EndsBefore, KeepOrder}
use Rattle.ckpt_machine.specs.Machine.{Applied}
use Rattle.ckpt_machine.specs.Runs.{last}
use Rattle.ckpt_machine.proofs.AcknowledgedExamples.{call_numbered, answered_ok, abc}
use Rattle.ckpt_machine.proofs.ClaimExamples.{other_numbered}
use Rattle.ckpt_machine.proofs.FailureExamples.{writing, step_at, effects_at, owner_at, active_and_generation}

-- ---- the words of the examples

-- a step of the write of c0 at a node, by which it goes on
abbrev its_step : Verb → ℕ → StepReply → Label
its_step verb r reply = labels.Stepped (call_numbered 3) opwords.Write verb (Some 1) (Some r) reply None beside.Nothing

-- what a client does next
abbrev next_of : ℕ → List Label → Option Next
next_of c log = option_map (due (last log)) ((last log).in_hand (Actor (Client c)))

-- n1 fails, where the client is whose write is under way, and c0 writes too
abbrev then_c0_writes : List Label
then_c0_writes = labels.Failed 1 true ∷ labels.Began (call_numbered 3) (ops.Write 0 abc) None beside.Nothing ∷ []

-- ---- c1 has staged on two of three when its node fails

abbrev cut : List Label
cut = writing wr_all_replicas ++ step_at verbs.Stage 0 ∷ step_at verbs.Stage 1 ∷ then_c0_writes

stages : next_of 0 cut ≡ Some (Serve 0 (requests.Stage (call_numbered 3) 1 (pos 0)))
stages = refl

-- its slot is of a call that is gone
abbrev met : List Label
met = cut ++ its_step verbs.Stage 0 (words.Held (other_numbered 3)) ∷ []

claims : next_of 0 met ≡ Some (Serve 0 (requests.Claim (call_numbered 3) 1 (other_numbered 3)))
claims = refl

abbrev claimed : List Label
claimed = met ++ its_step verbs.Claim 0 words.Ok ∷ []

it_owns_it : owner_at 0 (last claimed) ≡ Some (Some (call_numbered 3))
it_owns_it = refl

claims_on : next_of 0 claimed ≡ Some (Serve 2 (requests.Claim (call_numbered 3) 1 (other_numbered 3)))
claims_on = refl

-- the next has no slot, and no more updates than were under the claimed one: so no replica has the update
abbrev free : List Label
free = claimed ++ its_step verbs.Claim 2 (words.Free 0) ∷ []

withdraws : next_of 0 free ≡ Some (Serve 0 (requests.Withdraw (call_numbered 3) 1))
withdraws = refl

abbrev withdrawn : List Label
withdrawn = free ++ its_step verbs.Withdraw 0 words.Ok ∷ []

no_slot_is_left : owner_at 0 (last withdrawn) ≡ Some None
no_slot_is_left = refl

stages_its_own : next_of 0 withdrawn ≡ Some (Serve 0 (requests.Stage (call_numbered 3) 1 (pos 0)))
stages_its_own = refl

abbrev staged : List Label
staged = withdrawn ++ its_step verbs.Stage 0 words.Ok ∷ its_step verbs.Stage 2 words.Ok ∷ its_step verbs.Commit 2 words.Ok ∷ []

commits_last : next_of 0 staged ≡ Some (Serve 0 (requests.Commit (call_numbered 3) 1))
commits_last = refl

abbrev ended : List Label
ended = staged ++ labels.Stepped (call_numbered 3) opwords.Write verbs.Commit (Some 1) (Some 0) words.Ok answered_ok beside.Nothing ∷ []

-- no replica has what was cut short
n0_has_its_own : effects_at 0 (last ended) ≡ Some (Applied (call_numbered 3) abc (pos 0) ∷ [])
n0_has_its_own = refl

n2_has_it_too : effects_at 2 (last ended) ≡ Some (Applied (call_numbered 3) abc (pos 0) ∷ [])
n2_has_it_too = refl

-- ---- c1 has committed on one of three

abbrev half : List Label
half =
    writing wr_all_replicas
    ++ step_at verbs.Stage 0
    ∷ step_at verbs.Stage 1
    ∷ step_at verbs.Stage 2
    ∷ step_at verbs.Commit 2
    ∷ then_c0_writes
    ++ its_step verbs.Stage 0 (words.Held (other_numbered 3))
    ∷ its_step verbs.Claim 0 words.Ok
    ∷ its_step verbs.Claim 2 (words.Free 1)
    ∷ []

-- the one without a slot has one update more: so it is committed on the others, as the update of its own call
resolves : next_of 0 half ≡ Some (Serve 0 (requests.Commit (call_numbered 3) 1))
resolves = refl

abbrev resolved : List Label
resolved = half ++ its_step verbs.Commit 0 words.Ok ∷ []

has_the_others : effects_at 0 (last resolved) ≡ Some (Applied (other_numbered 3) abc (pos 0) ∷ [])
has_the_others = refl

-- c1's write ended before that of c0 began, as the failure of its client's node abandoned it; so no update of c0 could stand in front of it
abbrev until_it_fails : List Label
until_it_fails = writing wr_all_replicas ++ step_at verbs.Stage 0 ∷ step_at verbs.Stage 1 ∷ step_at verbs.Stage 2 ∷ step_at verbs.Commit 2 ∷ []

abbrev the_rest : List Label
the_rest = its_step verbs.Stage 0 (words.Held (other_numbered 3)) ∷ its_step verbs.Claim 0 words.Ok ∷ its_step verbs.Claim 2 (words.Free 1) ∷ its_step verbs.Commit 0 words.Ok ∷ []

it_ends_before : EndsBefore resolved (other_numbered 3) (call_numbered 3)
it_ends_before = record {
  before = until_it_fails;
  between = [];
  behind = the_rest;
  ending = labels.Failed 1 true;
  op = ops.Write 0 abc;
  end = None;
  details = beside.Nothing;
  log_is = refl;
  ends = inr (record { in_hand = record { name = Actor (Client 1); state = _; in_hand = refl; call_is = refl }; ends = failure refl });
}

and_stands_first : KeepOrder resolved (Applied (call_numbered 3) abc (pos 0) ∷ Applied (other_numbered 3) abc (pos 0) ∷ []) → ⊥
and_stands_first order = order (other_numbered 3) (call_numbered 3) it_ends_before (inl (refl, inl refl))

then_stages : next_of 0 resolved ≡ Some (Serve 0 (requests.Stage (call_numbered 3) 1 (pos 0)))
then_stages = refl

-- ---- c1 has committed on n2 and n1, and n0 fails, where its last slot is

abbrev fell : List Label
fell =
    writing wr_all_replicas
    ++ step_at verbs.Stage 0
    ∷ step_at verbs.Stage 1
    ∷ step_at verbs.Stage 2
    ∷ step_at verbs.Commit 2
    ∷ step_at verbs.Commit 1
    ∷ labels.Failed 0 true
    ∷ []

-- so it has nothing left to commit, and ends with OK by a look
looks : next_of 1 fell ≡ Some (End (Done answers.Nothing))
looks = refl

it_is_on_both : (effects_at 1 (last fell) ≡ Some (Applied (other_numbered 3) abc (pos 0) ∷ [])) × (effects_at 2 (last fell) ≡ Some (Applied (other_numbered 3) abc (pos 0) ∷ []))
it_is_on_both = (refl, refl)

-- the generation has risen, and n1 leads
n1_leads : active_and_generation (last fell) ≡ Some (Some 1, 2)
n1_leads = refl
