-- A log that stops early is a front of one that follows its script: labels with which it could go on.
use Rattle.std.proofs.Common.{◌≡◌, ℕ, zero, suc, ◌+◌, ◌<◌, ◌≤◌, List, [], ◌∷◌, ◌++◌, length, ℤ, pos, refl, sym, ap, subst, ◌∙◌, append_assoc, append-nil, length-append, arith}
use Rattle.std.specs.Prelude.{Bool, true, false, Option, Some, None, Result, Ok, Err, OnOk, OnErr}
use Rattle.ckpt_types.specs.declared.answers.Outcome.{Outcome}
use Rattle.ckpt_types.specs.declared.answers.Outcome.TheVariants.{NoMemory}
use Rattle.ckpt_types.specs.declared.identities.ActorName.{ActorName}
use Rattle.ckpt_types.specs.declared.identities.ActorName.TheVariants.{Client, Node}
use Rattle.ckpt_types.specs.declared.identities.CallId.{CallId}
use Rattle.ckpt_types.specs.declared.identities.Who.{Who}
use Rattle.ckpt_types.specs.declared.operation.Op.{Op}
use Rattle.ckpt_types.specs.declared.operation.Op.TheVariants as ops
use Rattle.run_labels.specs.declared.words.LineWord.{LineWord}
use Rattle.run_labels.specs.declared.words.LineWord.TheVariants as linewords
use Rattle.ckpt_types.specs.declared.words.OpWord.{OpWord}
use Rattle.run_labels.specs.declared.words.Said.TheVariants.{Idle}
use Rattle.node_msgs.specs.declared.steps.StepReply.TheVariants as replies
use Rattle.node_msgs.specs.declared.steps.Verb.TheVariants.{Look}
use Rattle.node_msgs.specs.declared.details.Details.TheVariants as beside
use Rattle.run_labels.specs.declared.labels.Label.{Label}
use Rattle.run_labels.specs.declared.labels.Label.TheVariants as labels
use Rattle.run_labels.specs.declared.labels.PullReply.TheVariants as pulls
use Rattle.run_labels.specs.declared.labels.PutReply.TheVariants as puts
use Rattle.ckpt_types.specs.Limits.{built_line_labels, nodes_max}
use Rattle.ckpt_types.specs.OpWord.{word_of_op, is_async}
use Rattle.script_lines.specs.declared.lines.Line.{Line}
use Rattle.script_lines.specs.declared.lines.Line.TheVariants as lines
use Rattle.script_lang.specs.Grammar.{moment_behind}
use Rattle.client_calls.specs.declared.in_hand.InHand.{InHand}
use Rattle.ckpt_machine.specs.Machine.{Machine, CallState}
use Rattle.ckpt_machine.specs.NodeJoins.{join_answer}
use Rattle.ckpt_machine.specs.Runs.{last, last_from}
use Rattle.session_run.specs.Follows.{AnswersLine, AreSteps, AreStepsBehind, IsWholeCall, StepsToEnd, StepsUpTo, stepped_call, FollowsFrom, Follows, FollowsFront}
use Rattle.cluster_record.specs.RecordState.{is_up}
use Rattle.session_run.specs.Growing.{GrowsBy, GrowsTowards, IsFinish, IsStepping, AreLeft}
use Rattle.session_run.proofs.Following.{idle_alone, none_stepped}
use Rattle.world_core.specs.HandsState.{hand_at}
use Rattle.world_core.specs.declared.world.World.{World}
use Rattle.world_core.specs.declared.world.Event.TheVariants as happenings
use Rattle.world_core.specs.Runs.{IsRunTo, Happens}
use Rattle.client_calls.specs.LineWords.{step_word}
use Rattle.session_run.specs.Playable.{IsPlayableLine, ArePlayable}

-- ---- labels that could come

-- a call of this actor and operation that ends at once
abbrev pub could_begin : ActorName → Op → Label
could_begin a op = labels.Began (record { actor = a; number = 0 }) op (Some NoMemory) beside.Nothing

-- it is all of the line
nothing_behind : (b : Bool) (call : CallId) (end : Outcome) → AreStepsBehind b call (Some end) []
nothing_behind true call end = refl
nothing_behind false call end = refl

pub could_begin-whole : (m : Machine) (a : ActorName) (op : Op) → IsWholeCall m a op (could_begin a op ∷ [])
could_begin-whole m a op = (refl, refl, nothing_behind (is_async (word_of_op op)) _ NoMemory)

-- a step by which a call could end
abbrev could_end : CallId → OpWord → Label
could_end call op = labels.Stepped call op Look None None replies.Ok (Some NoMemory) beside.Nothing

-- a step of the call that is named, or the word that there is none
abbrev could_step : Option CallState → Who → LineWord → Label
could_step None who word = labels.Word who word Idle
could_step (Some s) who word = could_end s.call (word_of_op s.op)

-- a label with which a line could be answered
abbrev pub could_answer : Machine → Line → Label
could_answer m (lines.Nodes n) = labels.Nodes n
could_answer m (lines.Call c op) = could_begin (Client c) op
could_answer m (lines.Begin a op) = could_begin a op
could_answer m (lines.Copy r) = could_begin (Node r) ops.Copy
could_answer m (lines.Step who n) = could_step (stepped_call m who) who linewords.Step
could_answer m (lines.Finish who) = could_step (stepped_call m who) who linewords.Finish
could_answer m (lines.At t) = labels.Moved t
could_answer m (lines.Pull k) = labels.Pulled k pulls.Nothing
could_answer m (lines.Put k r) = labels.Put k r puts.Nothing
could_answer m (lines.Propagate k) = labels.Pulled k pulls.Nothing
could_answer m (lines.Show k) = labels.Shown k None
could_answer m (lines.Fail r) = labels.Failed r (is_up r m.cluster)
could_answer m (lines.Join r) = labels.Joined r (join_answer r m.cluster)
could_answer m line = labels.Nodes 0

-- one step, where some are asked for
could_step-steps : (o : Option CallState) (who : Who) (n : ℕ) → 0 < n → AreSteps o who linewords.Step (λ call. StepsUpTo call n None) (could_step o who linewords.Step ∷ [])
could_step-steps None who n some = refl
could_step-steps (Some s) who zero some = absurd (omega (arith, some))
could_step-steps (Some s) who (suc n) some = (refl, refl)

could_step-finishes : (o : Option CallState) (who : Who) → AreSteps o who linewords.Finish (λ call. StepsToEnd call None) (could_step o who linewords.Finish ∷ [])
could_step-finishes None who = refl
could_step-finishes (Some s) who = (refl, refl)

could_answer-answers : (m : Machine) (t : ℤ) (line : Line) → IsPlayableLine t line → AnswersLine m line (could_answer m line ∷ [])
could_answer-answers m t (lines.Call c op) playable = could_begin-whole m (Client c) op
could_answer-answers m t (lines.Begin a op) playable = (refl, refl, refl)
could_answer-answers m t (lines.Copy r) playable = could_begin-whole m (Node r) ops.Copy
could_answer-answers m t (lines.Step who n) playable = could_step-steps (stepped_call m who) who n playable.1
could_answer-answers m t (lines.Finish who) playable = could_step-finishes (stepped_call m who) who
could_answer-answers m t (lines.At u) playable = refl
could_answer-answers m t (lines.Pull k) playable = (refl, refl)
could_answer-answers m t (lines.Put k r) playable = (refl, refl, refl)
could_answer-answers m t (lines.Propagate k) playable = (refl, refl)
could_answer-answers m t (lines.Show k) playable = (refl, refl)
could_answer-answers m t (lines.Fail r) playable = refl
could_answer-answers m t (lines.Join r) playable = refl
could_answer-answers m t line playable = absurd playable

-- lines that can be played could be answered one by one, from any state
pub could_follow : (m : Machine) (t : ℤ) (xs : List Line) → ArePlayable t xs → (more : List Label) × FollowsFrom m xs more
could_follow m t [] playable = ([], refl)
could_follow m t (x ∷ xs) playable =
    let front = could_answer m x ∷ [] in
    let back = could_follow (last_from m front) (moment_behind t x) xs playable.1 in
    (front ++ back.0, (front, back.0, refl, could_answer-answers m t x playable.0, omega arith, back.1))

-- the lines behind the next one can be played from some moment on
pub rest_follows : (i : ℕ) (t : ℤ) (line : Line) (rest : List Line) → AreLeft i t (line ∷ rest) → (m : Machine) → (more : List Label) × FollowsFrom m rest more
rest_follows zero t line rest left m = could_follow m (pos 0) rest left.1
rest_follows (suc i) t line rest left m = could_follow m (moment_behind t line) rest left.1

-- a step by which the call in hand could end
abbrev pub could_finish : Option InHand → List Label
could_finish None = []
could_finish (Some h) = could_end h.call (word_of_op h.op) ∷ []

could_finish-finishes : (o : Option InHand) → IsFinish o (could_finish o)
could_finish-finishes None = refl
could_finish-finishes (Some h) = (refl, refl)

could_finish-steps : (n : ℕ) (o : Option InHand) → 0 < n → IsStepping n o (could_finish o)
could_finish-steps n None some = refl
could_finish-steps zero (Some h) some = absurd (omega (arith, some))
could_finish-steps (suc n) (Some h) some = (refl, refl)

could_finish-few : (o : Option InHand) → length (could_finish o) ≤ nodes_max
could_finish-few None = omega arith
could_finish-few (Some h) = omega arith

-- ---- a line that is played so far

-- it is played to its end
pub towards_end : {P : List Label → Type 0} (old new : List Label) → GrowsBy old new P → GrowsTowards old new P
towards_end old new f = ([], omega arith, (f.0, append-nil new ∙ f.1, f.2))

-- nothing came yet, and one label could answer it
pub towards_one : {P : List Label → Type 0} (old new : List Label) (l : Label) → new ≡ old → P (l ∷ []) → GrowsTowards old new P
towards_one old new l same p = (l ∷ [], omega arith, (l ∷ [], ap (λ xs. xs ++ l ∷ []) same, p))

-- one label answers it, or nothing came yet
pub towards_label : {P : List Label → Type 0} {X E : Type 0} (A : Type 0) (r : Result X E) (old new : List Label) (l : Label) → P (l ∷ []) → OnOk r (new ≡ old ++ l ∷ []) → OnErr r (A × (new ≡ old)) → GrowsTowards old new P
towards_label A (Ok x) old new l p ok err = towards_end old new (l ∷ [], ok, p)
towards_label A (Err e) old new l p ok err = towards_one old new l err.1 p

-- what follows from a fault, of what it leaves besides
pub fault_leaves : {X E : Type 0} (P Q : Type 0) (r : Result X E) → OnErr r (P × Q) → OnErr r Q
fault_leaves P Q (Ok x) err = tt
fault_leaves P Q (Err e) err = err.1

-- it is answered by labels as they are, or nothing came yet and one could answer it
pub towards_begun : {P : List Label → Type 0} {X E : Type 0} (r : Result X E) (old new : List Label) (l : Label) → P (l ∷ []) → OnErr r (new ≡ old) → OnOk r (GrowsBy old new P) → GrowsTowards old new P
towards_begun (Ok x) old new l p err ok = towards_end old new ok
towards_begun (Err e) old new l p err ok = towards_one old new l err p

-- a step of the call in hand could end it
pub towards_finish : {P : List Label → Type 0} (old log new : List Label) (o : Option InHand) → new ≡ log → ((more : List Label) → IsFinish o more → GrowsBy old (log ++ more) P) → GrowsTowards old new P
towards_finish {P} old log new o same goes =
    (could_finish o, could_finish-few o, subst (λ (xs : List Label). GrowsBy old (xs ++ could_finish o) P) (sym same) (goes (could_finish o) (could_finish-finishes o)))

pub towards_stepping : {P : List Label → Type 0} (old log new : List Label) (n : ℕ) (o : Option InHand) → 0 < n → new ≡ log → ((more : List Label) → IsStepping n o more → GrowsBy old (log ++ more) P) → GrowsTowards old new P
towards_stepping {P} old log new n o some same goes =
    (could_finish o, could_finish-few o, subst (λ (xs : List Label). GrowsBy old (xs ++ could_finish o) P) (sym same) (goes (could_finish o) (could_finish-steps n o some)))

-- of which something else holds besides
pub towards_map : {P Q : List Label → Type 0} (old new : List Label) → GrowsTowards old new P → ((more : List Label) → P more → Q more) → GrowsTowards old new Q
towards_map old new f goes = (f.0, f.1, (f.2.0, f.2.1, goes f.2.0 f.2.2))

-- a word answers it, or nothing came yet
pub towards_idle : {X E : Type 0} (r : Result X E) (who : Who) (finish : Bool) (steps : CallId → List Label → Type 0) (old new : World) (log longer : List Label) → IsRunTo old log → hand_at old.hands who ≡ None → OnOk r (Happens (happenings.Step who finish) old new log longer) → OnErr r (longer ≡ log)
    → GrowsTowards log longer (AreSteps (stepped_call (last log) who) who (step_word finish) steps)
towards_idle (Ok x) who finish steps old new log longer run none happens err = towards_end log longer (idle_alone who finish steps old new log longer run none happens)
towards_idle (Err e) who finish steps old new log longer run none happens err =
    towards_one log longer (labels.Word who (step_word finish) Idle) err (subst (λ (o : Option CallState). AreSteps o who (step_word finish) steps (labels.Word who (step_word finish) Idle ∷ [])) (sym (none_stepped old log who run none)) refl)

-- the label that answered a beginning, and then the steps
pub towards_begin : {P Q : List Label → Type 0} (old middle new : List Label) (l : Label) → middle ≡ old ++ l ∷ [] → GrowsTowards middle new P → ((more : List Label) → P more → Q (l ∷ more)) → GrowsTowards old new Q
towards_begin old middle new l e f goes =
    let g = f.2 in
    (f.0, f.1, (l ∷ g.0, g.1 ∙ ap (λ xs. xs ++ g.0) e ∙ append_assoc old (l ∷ []) g.0, goes g.0 g.2))

-- ---- a script that is played so far

-- all of its lines are played
pub front_of_whole : (script : List Line) (log : List Label) → Follows script log → FollowsFront script log
front_of_whole script log f = ([], subst (Follows script) (sym (append-nil log)) f)

-- it stopped in a line
pub front_in_line : (script rest : List Line) (line : Line) (others : List Line) (old new : List Label) → rest ≡ line ∷ others → GrowsTowards old new (AnswersLine (last old) line) → length new ≤ length old + built_line_labels
    → ((more : List Label) → FollowsFrom (last old) rest more → Follows script (old ++ more)) → ((m : Machine) → (more : List Label) × FollowsFrom m others more) → FollowsFront script new
front_in_line script rest line others old new e f few goes could =
    let end : List Label = f.0 in
    let front : List Label = f.2.0 in
    let joined : new ++ end ≡ old ++ front = f.2.1 in
    let back = could (last_from (last old) front) in
    let short : length end ≤ nodes_max = f.1 in
    let size : length new + length end ≡ length old + length front = sym (length-append new end) ∙ ap length joined ∙ length-append old front in
    let all : FollowsFrom (last old) rest (front ++ back.0) = subst (λ r. FollowsFrom (last old) r (front ++ back.0)) (sym e) (front, back.0, refl, f.2.2, omega (arith, few, short, size), back.1) in
    let same : old ++ (front ++ back.0) ≡ new ++ (end ++ back.0) = sym (append_assoc old front back.0) ∙ ap (λ xs. xs ++ back.0) (sym joined) ∙ append_assoc new end back.0 in
    (end ++ back.0, subst (Follows script) same (goes (front ++ back.0) all))
