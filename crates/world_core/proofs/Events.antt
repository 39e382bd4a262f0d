-- An event that came is answered by its label, which adds to the run.
use Rattle.std.proofs.Common.{◌≡◌, ◌≢◌, inl, inr, Bool, true, false, List, [], ◌∷◌, ◌++◌, refl, sym, ap, subst, ◌∙◌, cond}
use Rattle.std.specs.Prelude.{◌<◌, Option, Some, None, IfSome}
use Rattle.ckpt_types.specs.declared.answers.Outcome.{Outcome}
use Rattle.ckpt_types.specs.declared.identities.ActorName.{ActorName}
use Rattle.ckpt_types.specs.declared.identities.CallId.{CallId}
use Rattle.ckpt_types.specs.declared.identities.Who.{Who}
use Rattle.ckpt_types.specs.declared.identities.Who.TheVariants.{Actor, Call}
use Rattle.ckpt_types.specs.declared.words.OpWord.{OpWord}
use Rattle.ckpt_types.specs.OpWord.{is_async, word_of_op, stepped_as}
use Rattle.ckpt_types.specs.declared.operation.Op.{Op}
use Rattle.run_labels.specs.declared.labels.Label.{Label}
use Rattle.run_labels.specs.declared.labels.Label.TheVariants as labels
use Rattle.client_calls.specs.declared.in_hand.InHand.{InHand}
use Rattle.world_core.specs.declared.world.Event.{Event}
use Rattle.world_core.specs.declared.world.Event.TheVariants as happenings
use Rattle.world_core.specs.declared.world.World.{World}
use Rattle.cluster_record.specs.Calls.{left}
use Rattle.world_core.specs.Shows.{Does}
use Rattle.ckpt_machine.specs.Runs.{last}
use Rattle.world_core.specs.Runs.{IsRunTo, MayHappen, Happens, Answers, AnswersBegin, AnswersStep, IsStepOf, IsIdleWord, IsLeft, KeepsOthers}
use Rattle.world_core.specs.StepsLeft.{left_of, ComesNearer}
use Rattle.world_core.specs.Happenings.{IsAnswered, IsStep, BeginsOrSays}
use Rattle.ckpt_machine.specs.Laws.{IsLawful, EachRunHas, GivesFacts, BringsNearer, StepsAreFew}
use Rattle.world_core.proofs.Moving.{shown-moment}
use Rattle.world_core.specs.HandsState.{hand_at}
use Rattle.world_core.proofs.Running.{goes_on, nearer}

-- ---- the calls in hand after it

-- what a step leaves of a call is in hand just where it has not ended it
is_left : (call : CallId) (op : Op) (end : Option Outcome) (next : InHand) → next.call ≡ call → next.op ≡ op → IsLeft call op end (left end next)
is_left call op (Some end) next same_call same_op = refl
is_left call op None next same_call same_op = (same_call, same_op)

idle_hands : (whose : Who) (finish : Bool) (old new : World) (label : Label) → IsIdleWord whose finish old new label → new.hands ≡ old.hands
idle_hands whose finish old new (labels.Word who word said) is = is.3
idle_hands whose finish old new label is = absurd is

-- ---- the label of a beginning

-- a call that begins is in hand by its actor's name or by its own
other_name : (a b : ActorName) (call : CallId) (word : OpWord) → call.actor ≡ a → b ≢ a → Actor b ≢ stepped_as call word
other_name a b call word actor apart = by_word (is_async word) where
  by_word : (async : Bool) → Actor b ≡ cond async (Call call) (Actor call.actor) → ⊥
  by_word true same = cc same
  by_word false same = apart (let one : Actor b ≡ Actor a = same ∙ ap Actor actor in cc one)

module _ (a : ActorName) (op : Op) (old new : World) where
  begin_does_answer : (label : Label) → BeginsOrSays a op old new label → AnswersBegin a op old new label
  begin_does_answer (labels.Began call begun end details) is = (is.actor, is.op_is, is.here)
  begin_does_answer (labels.Word who word said) is = is
  begin_does_answer label is = absurd is

  begin_others : (label : Label) (b : ActorName) → BeginsOrSays a op old new label → b ≢ a → hand_at new.hands (Actor b) ≡ hand_at old.hands (Actor b)
  begin_others (labels.Began call begun end details) b is apart = is.others b (other_name a b call (word_of_op op) is.actor apart)
  begin_others (labels.Word who word said) b is apart = ap (λ hands. hand_at hands (Actor b)) is.2
  begin_others label b is apart = absurd is

-- ---- the label of a step

step_answers : (v : Who) (finish : Bool) (old new : World) (label : Label) → IsStep v old new label → AnswersStep v finish (hand_at old.hands v) old new label
step_answers v finish old new label step =
    let stays = subst (IsLeft step.hand.call step.hand.op step.end) (sym step.here) (is_left step.hand.call step.hand.op step.end step.next step.same_call step.same_op) in
    subst (λ p. AnswersStep v finish p old new label) (sym step.held)
    (subst (IsStepOf v (Some step.hand) old new) (sym step.label_is) (refl, stays))

-- ---- any event

pub does_label : (event : Event) (old new : World) (label : Label) → IsAnswered event old new label → Does old new label
does_label (happenings.Step who finish) old new label (inl step) = step.does
does_label (happenings.Step who finish) old new label (inr idle) = idle.does
does_label event old new label is = is.does

answers_label : (event : Event) (old new : World) (label : Label) → IsAnswered event old new label → Answers event old new label
answers_label (happenings.Begin a op) old new label is = begin_does_answer a op old new label is.begins
answers_label (happenings.Step who finish) old new label (inl step) = step_answers who finish old new label step
answers_label (happenings.Step who finish) old new label (inr idle) = subst (λ p. AnswersStep who finish p old new label) (sym idle.none) idle.word
answers_label (happenings.Show k) old new label is = (is.label_is, ap (λ (w : World). w.hands) is.same)
answers_label (happenings.Fail r) old new label is = (is.label_is, is.moment)
answers_label (happenings.Join r) old new label is = (is.label_is, is.hands, is.moment)
answers_label event old new label is = (is.label_is, is.hands)

keeps_others : (event : Event) (old new : World) (label : Label) → IsAnswered event old new label → KeepsOthers event old new
keeps_others (happenings.Begin a op) old new label is = λ b apart. begin_others a op old new label b is.begins apart
keeps_others (happenings.Step who finish) old new label (inl step) = step.others
keeps_others (happenings.Step who finish) old new label (inr idle) = λ b apart. ap (λ hands. hand_at hands (Actor b)) (idle_hands who finish old new label idle.word)
keeps_others event old new label is = tt

-- ---- by the law of the machine

module _ (runs : EachRunHas) (facts : GivesFacts) (brings : BringsNearer) (few : StepsAreFew) where
  -- a step of the call in hand brings it nearer to its end
  comes_nearer : (log : List Label) (v : Who) (old new : World) (label : Label) → IsRunTo old log → IsStep v old new label → IfSome (hand_at old.hands v) (λ h. left_of new v < left_of old v)
  comes_nearer log v old new label run step =
      let does = subst (Does old new) step.label_is step.does in
      let fewer = nearer runs facts brings few old new log v step.hand step.next step.held run step.op step.verb step.ckpt step.node step.reply step.end step.details does step.here in
      subst (λ p. IfSome p (λ h. left_of new v < left_of old v)) (sym step.held) fewer

  pub nearer_with : (event : Event) (log : List Label) (old new : World) (label : Label) → IsRunTo old log → IsAnswered event old new label → ComesNearer event old new
  nearer_with (happenings.Step who finish) log old new label run (inl step) = comes_nearer log who old new label run step
  nearer_with (happenings.Step who finish) log old new label run (inr idle) = subst (λ (p : Option InHand). IfSome p (λ h. left_of new who < left_of old who)) (sym idle.none) tt
  nearer_with event log old new label run is = tt

-- the run goes on by the label that answers the event
pub run_with : IsLawful → EachRunHas → GivesFacts → (event : Event) (old new : World) (log longer : List Label) (label : Label) → MayHappen old log event → IsAnswered event old new label → longer ≡ log ++ label ∷ [] → IsRunTo new longer
run_with lawful runs facts event old new log longer label may is grows =
    subst (IsRunTo new) (sym grows) (goes_on lawful runs facts old new log label may.run (does_label event old new label is))

-- and the label answers it
pub happens_with : EachRunHas → GivesFacts → (event : Event) (old new : World) (log longer : List Label) (label : Label) → MayHappen old log event → IsAnswered event old new label → longer ≡ log ++ label ∷ [] → Happens event old new log longer
happens_with runs facts event old new log longer label may is grows =
    let answers = answers_label event old new label is in
    record {
      label = label;
      grows = grows;
      answers = answers;
      others = keeps_others event old new label is;
      moment = shown-moment event old new label (last log) may.run.shows (facts (last log) (runs log may.run.run).0) (does_label event old new label is) answers;
    }
