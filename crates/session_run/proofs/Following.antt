-- A log that follows a script grows: step by step to the end of a call, and line by line.
use Rattle.std.proofs.Common.{◌≡◌, ℕ, zero, ◌+◌, ◌<◌, ◌≤◌, List, [], ◌∷◌, ◌++◌, length, drop, get_or, refl, sym, ap, subst, ◌∙◌, append_assoc, append-nil, length-append, arith, add-one, suc}
use Rattle.std.proofs.Math.Seq.{drop-cons}
use Rattle.std.specs.Prelude.{Option, Some, None, IfSome, is_some, is_none, Bool, true, false, if◌then◌else◌, Result, Ok, Err, OnOk}
use Rattle.ckpt_types.specs.declared.answers.Outcome.{Outcome}
use Rattle.ckpt_types.specs.declared.answers.Outcome.TheVariants.{Done}
use Rattle.ckpt_types.specs.declared.identities.ActorName.{ActorName}
use Rattle.ckpt_types.specs.declared.identities.ActorName.TheVariants.{Client, Node}
use Rattle.ckpt_types.specs.declared.identities.Who.{Who}
use Rattle.ckpt_types.specs.declared.identities.Who.TheVariants.{Actor, Call}
use Rattle.ckpt_types.specs.declared.identities.CallId.{CallId}
use Rattle.ckpt_types.specs.declared.operation.Op.{Op}
use Rattle.ckpt_types.specs.declared.operation.Op.TheVariants as ops
use Rattle.ckpt_types.specs.declared.words.OpWord.{OpWord}
use Rattle.ckpt_types.specs.Asks.{MayAsk, asked}
use Rattle.ckpt_types.specs.Limits.{built_line_labels, nodes_max}
use Rattle.ckpt_types.specs.OpWord.{word_of_op, is_async, stepped_as}
use Rattle.node_msgs.specs.declared.details.Details.{Details}
use Rattle.run_labels.specs.declared.labels.Label.{Label}
use Rattle.run_labels.specs.declared.labels.Label.TheVariants as labels
use Rattle.run_labels.specs.declared.words.Said.{Said}
use Rattle.run_labels.specs.declared.words.Said.TheVariants.{Down, Idle}
use Rattle.run_labels.specs.declared.words.LineWord.TheVariants as linewords
use Rattle.script_lines.specs.declared.lines.Line.{Line}
use Rattle.client_calls.specs.declared.in_hand.InHand.{InHand}
use Rattle.world_core.specs.declared.world.World.{World}
use Rattle.cluster_record.specs.RecordState.{is_up}
use Rattle.ckpt_machine.specs.Machine.{Machine, CallState, empty_cluster}
use Rattle.ckpt_machine.specs.Runs.{last, last_from, IsRun}
use Rattle.ckpt_machine.specs.After.{after, call_begun, goes_on}
use Rattle.ckpt_machine.specs.Due.{asked_handle, kept_at_beginning}
use Rattle.ckpt_machine.specs.Whose.{put_who}
use Rattle.ckpt_machine.proofs.Runs.{last-push, last_from-append, run_before}
use Rattle.world_core.specs.Runs.{GoesOn, IsLeft, IsThereIf, IsRunTo, SaysTrue, Answers, AnswersBegin, AnswersStep, IsIdleWord, IsShownOf, Happens}
use Rattle.client_calls.specs.LineWords.{step_word}
use Rattle.world_core.specs.declared.world.Event.TheVariants as happenings
use Rattle.world_core.proofs.Held.{state_in, in_hand_is}
use Rattle.world_core.proofs.Words.{none_in_hand}
use Rattle.world_core.specs.HandsState.{hand_at}
use Rattle.session_run.specs.Follows.{AreStepsBehind, StepsToEnd, StepsUpTo, SaysTrueIn, IsWholeCall, IsBegunCall, IsListing, AreSteps, stepped_call, AnswersLine, FollowsFrom, Follows}
use Rattle.session_run.specs.Growing.{GrowsBy, IsFinish, IsStepping}

-- what is left of a call that goes on are the steps of the call in hand
steps_of_hand : (call : CallId) (op : Op) (end : Option Outcome) (o : Option InHand) (more : List Label) → IsLeft call op end o → IsFinish o more → StepsToEnd call end more
steps_of_hand call op (Some e) None more left f = f
steps_of_hand call op (Some e) (Some h) more left f = absurd (cc left)
steps_of_hand call op None None more left f = absurd left
steps_of_hand call op None (Some h) more left f = subst (λ c. StepsToEnd c None more) left.0 f

-- what is so of a call in hand is so where there is one
pub IfSome-held : {A P : Type 0} (o : Option A) → is_some o ≡ true → IfSome o (λ x. P) → P
IfSome-held None held so = absurd cc
IfSome-held (Some x) held so = so

-- a step of the call in hand stands before the steps that are then left
pub step_grows : (v : Who) (o : Option InHand) (old new : World) (l : Label) → AnswersStep v false o old new l → is_some o ≡ true →
    (more : List Label) → IsFinish (hand_at new.hands v) more → IsFinish o (l ∷ more)
step_grows v None old new l answers held more f = absurd cc
step_grows v (Some h) old new (labels.Stepped call op verb k r reply end details) answers held more f = (answers.0, steps_of_hand h.call h.op end (hand_at new.hands v) more answers.1 f)
step_grows v (Some h) old new l answers held more f = absurd answers

-- the same of a number of steps
steps_of_stepping : (call : CallId) (op : Op) (n : ℕ) (end : Option Outcome) (o : Option InHand) (more : List Label) → IsLeft call op end o → IsStepping n o more → StepsUpTo call n end more
steps_of_stepping call op n (Some e) None more left f = f
steps_of_stepping call op n (Some e) (Some h) more left f = absurd (cc left)
steps_of_stepping call op n None None more left f = absurd left
steps_of_stepping call op n None (Some h) more left f = subst (λ c. StepsUpTo c n None more) left.0 f

pub stepping_grows : (v : Who) (n : ℕ) (o : Option InHand) (old new : World) (l : Label) → AnswersStep v false o old new l → is_some o ≡ true →
    (more : List Label) → IsStepping n (hand_at new.hands v) more → IsStepping (suc n) o (l ∷ more)
stepping_grows v n None old new l answers held more f = absurd cc
stepping_grows v n (Some h) old new (labels.Stepped call op verb k r reply end details) answers held more f = (answers.0, steps_of_stepping h.call h.op n end (hand_at new.hands v) more answers.1 f)
stepping_grows v n (Some h) old new l answers held more f = absurd answers

-- none are left of no call, nor where no more were asked for
pub stepping_of_none : (n : ℕ) (o : Option InHand) → o ≡ None → IsStepping n o []
stepping_of_none n o e = subst (λ (o : Option InHand). IsStepping n o []) (sym e) refl

pub stepping_zero : (o : Option InHand) → IsStepping zero o []
stepping_zero None = refl
stepping_zero (Some h) = refl

-- what a word says of the world, it says of the machine's state that the world shows
SaysTrueIn-shown : (a : ActorName) (op : Op) (said : Said) (w : World) (m : Machine) → m.cluster ≡ w.cluster → SaysTrue a op said w → SaysTrueIn a op said m
SaysTrueIn-shown a (ops.Client r version callbacks) Down w m same true_of = ap (is_up r) same ∙ true_of
SaysTrueIn-shown (Client c) ops.Copy Down w m same true_of = absurd true_of
SaysTrueIn-shown (Node r) ops.Copy Down w m same true_of = ap (is_up r) same ∙ true_of
SaysTrueIn-shown a op Down w m same true_of = absurd true_of
SaysTrueIn-shown a op said w m same true_of = tt

-- ---- a beginning

-- nothing is in hand under a name where the machine that is shown has nothing
none_shown : (w : World) (log : List Label) (v : Who) → IsRunTo w log → (last log).in_hand v ≡ None → hand_at w.hands v ≡ None
none_shown w log v run none = by_hand (hand_at w.hands v) refl
  where
    by_hand : (o : Option InHand) → hand_at w.hands v ≡ o → o ≡ None
    by_hand None is = refl
    by_hand (Some hand) is =
        let there = sym none ∙ (ap (λ (m : Machine). m.in_hand v) run.shows.same ∙ in_hand_is w run.shows.history v hand is) in
        absurd (cc there)

-- a call that begins under its own name leaves what its actor has in hand: none
begun_beside : (m : Machine) (call : CallId) (op : Op) (end : Option Outcome) (details : Details) → is_async (word_of_op op) ≡ true → (after m (labels.Began call op end details)).in_hand (Actor call.actor) ≡ m.in_hand (Actor call.actor)
begun_beside m call op end details alone =
    let begun = call_begun end call op (kept_at_beginning m.cluster call.actor (asked_handle m call.actor op)) in
    ap (λ b. put_who m.in_hand (if b then Call call else Actor call.actor) begun (Actor call.actor)) alone

-- so nothing is in hand under the name of its actor
none_beside : (a : ActorName) (old new : World) (log longer : List Label) (call : CallId) (op : Op) (end : Option Outcome) (details : Details) → IsRunTo old log → IsRunTo new longer → longer ≡ log ++ labels.Began call op end details ∷ [] → call.actor ≡ a →
    is_async (word_of_op op) ≡ true → hand_at old.hands (Actor a) ≡ None → hand_at new.hands (Actor a) ≡ None
none_beside a old new log longer call op end details run later grows own alone idle =
    let l = labels.Began call op end details in
    let here : (after (last log) l).in_hand (Actor a) ≡ (last log).in_hand (Actor a) = subst (λ b. (after (last log) l).in_hand (Actor b) ≡ (last log).in_hand (Actor b)) own (begun_beside (last log) call op end details alone) in
    let before : (last log).in_hand (Actor a) ≡ None = ap (λ (m : Machine). m.in_hand (Actor a)) run.shows.same ∙ none_in_hand old run.shows.history (Actor a) idle in
    none_shown new longer (Actor a) later (ap (λ (xs : List Label). (last xs).in_hand (Actor a)) grows ∙ (ap (λ (m : Machine). m.in_hand (Actor a)) (last-push log l) ∙ (here ∙ before)))

-- of a call that is not asynchronous, a beginning leaves what a step would
left_plain : (word : OpWord) (end : Option Outcome) → is_async word ≡ false → goes_on word end ≡ is_none end
left_plain word None plain = refl
left_plain word (Some (Done answer)) plain = plain
left_plain word (Some _) plain = refl

-- behind a beginning come the steps of what is then in hand under the actor's name
steps_behind : (a : ActorName) (new : World) (call : CallId) (op : Op) (end : Option Outcome) (more : List Label) → call.actor ≡ a → GoesOn call op end (hand_at new.hands (stepped_as call (word_of_op op))) →
    (is_async (word_of_op op) ≡ true → hand_at new.hands (Actor a) ≡ None) → IsFinish (hand_at new.hands (Actor a)) more → AreStepsBehind (is_async (word_of_op op)) call end more
steps_behind a new call op end more own goes none f = by_name (is_async (word_of_op op)) refl
  where
    by_name : (b : Bool) → is_async (word_of_op op) ≡ b → AreStepsBehind b call end more
    by_name true alone = subst (λ (o : Option InHand). IsFinish o more) (none alone) f
    by_name false plain =
        let name : stepped_as call (word_of_op op) ≡ Actor a = ap (λ b. if b then Call call else Actor call.actor) plain ∙ ap Actor own in
        let there : GoesOn call op end (hand_at new.hands (Actor a)) = subst (λ v. GoesOn call op end (hand_at new.hands v)) name goes in
        steps_of_hand call op end (hand_at new.hands (Actor a)) more (subst (λ b. IsThereIf b call op (hand_at new.hands (Actor a))) (left_plain (word_of_op op) end plain) there) f

-- the label that answers a beginning stands before the steps that are then left
pub begin_grows : (a : ActorName) (op : Op) (old new : World) (log longer : List Label) (l : Label) (more : List Label) → IsRunTo old log → IsRunTo new longer → longer ≡ log ++ l ∷ [] → AnswersBegin a op old new l →
    hand_at old.hands (Actor a) ≡ None → IsFinish (hand_at new.hands (Actor a)) more → IsWholeCall (last log) a op (l ∷ more)
begin_grows a op old new log longer (labels.Began call begun end details) more run later grows answers idle f =
    let is : longer ≡ log ++ labels.Began call op end details ∷ [] = grows ∙ ap (λ o. log ++ labels.Began call o end details ∷ []) answers.1 in
    (answers.0, answers.1, steps_behind a new call op end more answers.0 answers.2 (λ alone. none_beside a old new log longer call op end details run later is answers.0 alone idle) f)
begin_grows a op old new log longer (labels.Word who word said) more run later grows answers idle f =
    let same : (last log).cluster ≡ old.cluster = ap (λ (m : Machine). m.cluster) run.shows.same in
    (answers.0, answers.1, SaysTrueIn-shown a op said old (last log) same answers.3, subst (λ (o : Option InHand). IsFinish o more) (ap (λ hands. hand_at hands (Actor a)) answers.2 ∙ idle) f)
begin_grows a op old new log longer l more run later grows answers idle f = absurd answers

-- the label that answers a line by which a call only begins
pub begin_alone : (a : ActorName) (op : Op) (old new : World) (log : List Label) (l : Label) → IsRunTo old log → AnswersBegin a op old new l → IsBegunCall (last log) a op (l ∷ [])
begin_alone a op old new log (labels.Began call begun end details) run answers = (answers.0, answers.1, refl)
begin_alone a op old new log (labels.Word who word said) run answers =
    let same : (last log).cluster ≡ old.cluster = ap (λ (m : Machine). m.cluster) run.shows.same in
    (answers.0, answers.1, SaysTrueIn-shown a op said old (last log) same answers.3, refl)
begin_alone a op old new log l run answers = absurd answers

-- a node asks for its copying alone, and is one of the nodes
pub node_copies : (r : ℕ) (op : Op) → MayAsk (Node r) (asked op) → (r < nodes_max) × (op ≡ ops.Copy)
node_copies r ops.Copy may = (may, refl)
node_copies r op may = absurd may

-- no call begins where its actor has one in hand
not_begun : (a : ActorName) (old new : World) (log longer : List Label) (call : CallId) (op : Op) (end : Option Outcome) (details : Details) → IsRunTo old log → IsRunTo new longer → longer ≡ log ++ labels.Began call op end details ∷ [] → call.actor ≡ a →
    is_some (hand_at old.hands (Actor a)) ≡ true → ⊥
not_begun a old new log longer call op end details run later grows own held =
    let (before, allowed, due) = run_before _ log (labels.Began call op end details) (subst IsRun grows later.run) in
    let none = none_shown old log (Actor a) run (ap (λ b. (last log).in_hand (Actor b)) (sym own) ∙ due.none_in_hand) in
    let is : false ≡ true = sym (ap is_some none) ∙ held in
    cc

-- so the one label that answers its line is a word
pub busy_alone : (a : ActorName) (op : Op) (old new : World) (log longer : List Label) (l : Label) → IsRunTo old log → IsRunTo new longer → longer ≡ log ++ l ∷ [] → AnswersBegin a op old new l →
    is_some (hand_at old.hands (Actor a)) ≡ true → IsWholeCall (last log) a op (l ∷ [])
busy_alone a op old new log longer (labels.Began call begun end details) run later grows answers held = absurd (not_begun a old new log longer call begun end details run later grows answers.0 held)
busy_alone a op old new log longer (labels.Word who word said) run later grows answers held = begin_alone a op old new log (labels.Word who word said) run answers
busy_alone a op old new log longer l run later grows answers held = absurd answers

-- the label that answers a show
pub listing_alone : (k : ℕ) (l : Label) → IsShownOf k l → IsListing k (l ∷ [])
listing_alone k (labels.Shown other replicas) is = (is, refl)
listing_alone k l is = absurd is

-- ---- the call of which a line asks for steps

-- it is in hand under the name, in the world and in the state that it shows
record IsHeldBy (w : World) (log : List Label) (who : Who) : Type 0 where
  pub hand : InHand
  pub held : hand_at w.hands who ≡ Some hand
  pub state : CallState
  pub stepped : stepped_call (last log) who ≡ Some state
  pub call_is : state.call ≡ hand.call

is_held : (w : World) (log : List Label) (who : Who) → IsRunTo w log → is_some (hand_at w.hands who) ≡ true → IsHeldBy w log who
is_held w log who run is = by_hand (hand_at w.hands who) refl is
  where
    by_hand : (o : Option InHand) → hand_at w.hands who ≡ o → is_some o ≡ true → IsHeldBy w log who
    by_hand None held is = absurd (cc is)
    by_hand (Some hand) held is = record {
      hand = hand;
      held = held;
      state = state_in run.shows.history who hand;
      stepped = ap (λ (m : Machine). m.in_hand who) run.shows.same ∙ in_hand_is w run.shows.history who hand held;
      call_is = refl;
    }

-- where nothing is in hand under the name, nothing is stepped
pub none_stepped : (w : World) (log : List Label) (who : Who) → IsRunTo w log → hand_at w.hands who ≡ None → stepped_call (last log) who ≡ None
none_stepped w log who run none = ap (λ (m : Machine). m.in_hand who) run.shows.same ∙ none_in_hand w run.shows.history who none

-- so many steps of the call in hand are steps of the call that is named
pub are_stepping : (w : World) (log : List Label) (who : Who) (n : ℕ) → IsRunTo w log → is_some (hand_at w.hands who) ≡ true → (more : List Label) → IsStepping n (hand_at w.hands who) more → AreSteps (stepped_call (last log) who) who linewords.Step (λ call. StepsUpTo call n None) more
are_stepping w log who n run is more f =
    let it = is_held w log who run is in
    subst (λ (o : Option CallState). AreSteps o who linewords.Step (λ call. StepsUpTo call n None) more) (sym it.stepped)
    (subst (λ (call : CallId). StepsUpTo call n None more) (sym it.call_is) (subst (λ (o : Option InHand). IsStepping n o more) it.held f))

-- and likewise to its end
pub are_finishing : (w : World) (log : List Label) (who : Who) → IsRunTo w log → is_some (hand_at w.hands who) ≡ true → (more : List Label) → IsFinish (hand_at w.hands who) more → AreSteps (stepped_call (last log) who) who linewords.Finish (λ call. StepsToEnd call None) more
are_finishing w log who run is more f =
    let it = is_held w log who run is in
    subst (λ (o : Option CallState). AreSteps o who linewords.Finish (λ call. StepsToEnd call None) more) (sym it.stepped)
    (subst (λ (call : CallId). StepsToEnd call None more) (sym it.call_is) (subst (λ (o : Option InHand). IsFinish o more) it.held f))

-- the word that answers where nothing is in hand
idle_label : (who : Who) (finish : Bool) (old new : World) (label : Label) → IsIdleWord who finish old new label → label ≡ labels.Word who (step_word finish) Idle
idle_label who finish old new (labels.Word whose word said) is = λ i. labels.Word (is.0 i) (is.1 i) (is.2 i)
idle_label who finish old new label is = absurd is

idle_answers : (who : Who) (finish : Bool) (old new : World) (label : Label) → hand_at old.hands who ≡ None → Answers (happenings.Step who finish) old new label → label ≡ labels.Word who (step_word finish) Idle
idle_answers who finish old new label none answers = idle_label who finish old new label (subst (λ (o : Option InHand). AnswersStep who finish o old new label) none answers)

-- is what the line is answered with
pub idle_alone : (who : Who) (finish : Bool) (steps : CallId → List Label → Type 0) (old new : World) (log longer : List Label) → IsRunTo old log → hand_at old.hands who ≡ None → Happens (happenings.Step who finish) old new log longer
    → GrowsBy log longer (AreSteps (stepped_call (last log) who) who (step_word finish) steps)
idle_alone who finish steps old new log longer run none h =
    (h.label ∷ [], h.grows, subst (λ (o : Option CallState). AreSteps o who (step_word finish) steps (h.label ∷ [])) (sym (none_stepped old log who run none)) (ap (λ l. l ∷ []) (idle_answers who finish old new h.label none h.answers)))

-- a label more
pub GrowsBy-label : {P : List Label → Type 0} (old log new : List Label) (l : Label) (more : List Label) → new ≡ log ++ l ∷ [] → GrowsBy old (log ++ (l ∷ more)) P → GrowsBy old (new ++ more) P
GrowsBy-label old log new l more e f = (f.0, ap (λ xs. xs ++ more) e ∙ (append_assoc log (l ∷ []) more ∙ f.1), f.2)

-- at the end of the labels
pub GrowsBy-end : {P : List Label → Type 0} (old log : List Label) → GrowsBy old (log ++ []) P → GrowsBy old log P
GrowsBy-end old log f = (f.0, sym (append-nil log) ∙ f.1, f.2)

-- of which something else holds besides
pub GrowsBy-map : {P Q : List Label → Type 0} (old new : List Label) → GrowsBy old new P → ((more : List Label) → P more → Q more) → GrowsBy old new Q
GrowsBy-map old new f goes = (f.0, f.1, goes f.0 f.2)

-- the label that answered a beginning, and then the steps
pub GrowsBy-begin : {P Q : List Label → Type 0} (old middle new : List Label) (l : Label) → middle ≡ old ++ l ∷ [] → GrowsBy middle new P → ((more : List Label) → P more → Q (l ∷ more)) → GrowsBy old new Q
GrowsBy-begin old middle new l e f goes = (l ∷ f.0, f.1 ∙ ap (λ xs. xs ++ f.0) e ∙ append_assoc old (l ∷ []) f.0, goes f.0 f.2)

-- what is not there is none
pub none_if_not : (o : Option InHand) → is_some o ≡ false → o ≡ None
none_if_not None e = refl
none_if_not (Some h) e = absurd cc

-- of no call, no steps are left
pub finish_of_none : (o : Option InHand) → o ≡ None → IsFinish o []
finish_of_none o e = subst (λ (o : Option InHand). IsFinish o []) (sym e) refl

-- one line more
pub follows_line : (script rest : List Line) (line : Line) (others : List Line) (old new : List Label) → rest ≡ line ∷ others → GrowsBy old new (AnswersLine (last old) line) →
    length new ≤ length old + built_line_labels → ((more : List Label) → FollowsFrom (last old) rest more → Follows script (old ++ more)) → (more : List Label) → FollowsFrom (last new) others more → Follows script (new ++ more)
follows_line script rest line others old new e f few goes more h =
    let front : last new ≡ last_from (last old) f.0 = ap last f.1 ∙ last_from-append empty_cluster old f.0 in
    let later : FollowsFrom (last_from (last old) f.0) others more = subst (λ (m : Machine). FollowsFrom m others more) front h in
    let grown : length new ≡ length old + length f.0 = ap length f.1 ∙ length-append old f.0 in
    let all : FollowsFrom (last old) rest (f.0 ++ more) = subst (λ r. FollowsFrom (last old) r (f.0 ++ more)) (sym e) (f.0, more, refl, f.2, omega (arith, few, grown), later) in
    subst (Follows script) (sym (ap (λ xs. xs ++ more) f.1 ∙ append_assoc old f.0 more)) (goes (f.0 ++ more) all)

-- from an item on, a list is the item and what comes behind it
pub drop_item : {X : Type 0} (xs : List X) (i : ℕ) (d : X) → i < length xs → d ≡ get_or xs i d → drop i xs ≡ d ∷ drop (i + 1) xs
drop_item xs i d h is = rw (add-one, drop-cons xs i d) (ap (λ x. x ∷ drop (suc i) xs) (sym is))

-- a log follows its script where no line is left
pub follows_end : (script rest : List Line) (log : List Label) → rest ≡ [] → ((more : List Label) → FollowsFrom (last log) rest more → Follows script (log ++ more)) → Follows script log
follows_end script rest log e goes = subst (Follows script) (append-nil log) (goes [] (subst (λ r. FollowsFrom (last log) r []) (sym e) refl))

-- what follows from a fact of an Ok
pub OnOk-map : {X E P Q : Type 0} (r : Result X E) → OnOk r P → (P → Q) → OnOk r Q
OnOk-map (Ok x) p f = f p
OnOk-map (Err e) p f = tt
