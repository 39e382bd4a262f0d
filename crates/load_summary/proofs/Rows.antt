-- Labels beside the summary of them, by computation.
use Rattle.std.proofs.Common.{◌≡◌, refl, [], ◌∷◌, Option, Some, None, codes, true}
use Rattle.std.specs.Fmt.{digits}
use Rattle.ckpt_types.specs.declared.ais_error.AisError.TheVariants as errors
use Rattle.ckpt_types.specs.declared.answers.Answer.TheVariants as answers
use Rattle.ckpt_types.specs.declared.answers.Cause.TheVariants as causes
use Rattle.ckpt_types.specs.declared.answers.Outcome.{Outcome}
use Rattle.ckpt_types.specs.declared.answers.Outcome.TheVariants as outcomes
use Rattle.ckpt_types.specs.declared.identities.ActorName.TheVariants as actors
use Rattle.ckpt_types.specs.declared.operation.Op.TheVariants as ops
use Rattle.ckpt_types.specs.declared.words.OpWord.TheVariants as words
use Rattle.node_msgs.specs.declared.details.Details.TheVariants as beside
use Rattle.node_msgs.specs.declared.steps.StepReply.TheVariants as replies
use Rattle.node_msgs.specs.declared.steps.Verb.TheVariants as verbs
use Rattle.run_labels.specs.declared.labels.Label.{Label}
use Rattle.run_labels.specs.declared.labels.Label.TheVariants as labels
use Rattle.run_labels.specs.declared.words.LineWord.TheVariants as line_words
use Rattle.run_labels.specs.declared.words.Said.TheVariants as said
use Rattle.ckpt_types.specs.declared.identities.Who.TheVariants as whose
use Rattle.load_summary.specs.Summary.{summary}

-- a call begins, and ends so if at all
abbrev began : Option Outcome → Label
began end = labels.Began (record { actor = actors.Client 0; number = 1 }) (ops.Close 0) end beside.Nothing

-- a call takes a step, and ends so if at all
abbrev stepped : Option Outcome → Label
stepped end = labels.Stepped (record { actor = actors.Client 0; number = 1 }) words.Close verbs.Close (Some 1) None replies.Ok end beside.Nothing

abbrev done : Option Outcome
done = Some (outcomes.Done answers.Nothing)

abbrev refused : errors.the_data → Option Outcome
refused error = Some (outcomes.Refused error causes.Plain)

nothing_ended : summary [] ≡ codes "calls 0\nsteps 0\n"
unfolding digits
nothing_ended = refl

one_step_that_ends_a_call : summary (began None ∷ stepped done ∷ []) ≡ codes "calls 1\nOK 1\nsteps 1\n"
unfolding digits
one_step_that_ends_a_call = refl

codes_stand_by_their_numbers :
    summary (began (refused errors.NoSections) ∷ stepped (refused errors.TryAgain) ∷ stepped None ∷ stepped done ∷ began (refused errors.TryAgain) ∷ began (Some outcomes.NoMemory) ∷ [])
    ≡ codes "calls 5\nOK 1\nTRY_AGAIN 2\nNO_MEMORY 1\nNO_SECTIONS 1\nsteps 3\n"
unfolding digits
codes_stand_by_their_numbers = refl

what_has_no_code_is_no_call :
    summary (began (Some outcomes.Busy) ∷ stepped (Some outcomes.Abandoned) ∷ labels.Failed 0 true ∷ labels.Word (whose.Actor (actors.Client 0)) (line_words.Op words.Write) said.Busy ∷ [])
    ≡ codes "calls 0\nsteps 1\n"
unfolding digits
what_has_no_code_is_no_call = refl
