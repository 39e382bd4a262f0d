-- A log follows a script: the lines in order, each with its labels.
use Rattle.std.specs.Prelude.{◌≡◌, ℕ, zero, suc, ◌≤◌, List, [], ◌∷◌, ◌++◌, length, Option, Some, None, Bool, true, false}
use Rattle.ckpt_types.specs.declared.answers.Outcome.{Outcome}
use Rattle.ckpt_types.specs.declared.identities.ActorName.{ActorName}
use Rattle.ckpt_types.specs.declared.identities.ActorName.TheVariants.{Client, Node}
use Rattle.ckpt_types.specs.declared.identities.CallId.{CallId}
use Rattle.ckpt_types.specs.declared.identities.Who.{Who}
use Rattle.ckpt_types.specs.declared.identities.Who.TheVariants.{Actor}
use Rattle.ckpt_types.specs.declared.operation.Op.{Op}
use Rattle.ckpt_types.specs.declared.operation.Op.TheVariants as ops
use Rattle.run_labels.specs.declared.labels.Label.{Label}
use Rattle.run_labels.specs.declared.labels.Label.TheVariants as labels
use Rattle.run_labels.specs.declared.words.LineWord.{LineWord}
use Rattle.run_labels.specs.declared.words.LineWord.TheVariants as linewords
use Rattle.run_labels.specs.declared.words.Said.{Said}
use Rattle.run_labels.specs.declared.words.Said.TheVariants.{Down, Idle}
use Rattle.ckpt_types.specs.Limits.{line_labels_max}
use Rattle.ckpt_types.specs.OpWord.{word_of_op, is_async}
use Rattle.script_lines.specs.declared.lines.Line.{Line}
use Rattle.script_lines.specs.declared.lines.Line.TheVariants as lines
use Rattle.cluster_record.specs.RecordState.{entry_of, is_up}
use Rattle.ckpt_machine.specs.Machine.{Machine, CallState, empty_cluster}
use Rattle.ckpt_machine.specs.NodeJoins.{join_answer}
use Rattle.ckpt_machine.specs.Runs.{last_from}
use Rattle.session_run.specs.Puts.{ArePuts, IsPropagation, IsPull, other_nodes}

-- the steps of a call to its end, and nothing else; none where it has ended
abbrev pub StepsToEnd : CallId → Option Outcome → List Label → Type 0
StepsToEnd call (Some end) rest = rest ≡ []
StepsToEnd call None [] = ⊥
StepsToEnd call None (labels.Stepped other op verb k r reply end details ∷ rest) = (other ≡ call) × StepsToEnd call end rest
StepsToEnd call None (label ∷ rest) = ⊥

-- the actor is a node that is not up
abbrev pub IsDownIn : ActorName → Machine → Type 0
IsDownIn (Client c) m = ⊥
IsDownIn (Node r) m = is_up r m.cluster ≡ false

-- a word that says DOWN is said of a node that is not up: the one that an Initialize names, or the one that is to copy
abbrev pub SaysTrueIn : ActorName → Op → Said → Machine → Type 0
SaysTrueIn a (ops.Client r version callbacks) Down m = is_up r m.cluster ≡ false
SaysTrueIn a ops.Copy Down m = IsDownIn a m
SaysTrueIn a op Down m = ⊥
SaysTrueIn a op said m = Unit {0}

-- what comes behind the beginning of a call in its line: its steps to the end, where it goes on under its actor's name; nothing, where it is
-- asynchronous and goes on under its own
abbrev pub AreStepsBehind : Bool → CallId → Option Outcome → List Label → Type 0
AreStepsBehind true call end rest = rest ≡ []
AreStepsBehind false call end rest = StepsToEnd call end rest

-- a call of this actor with this operation, of a node its copying: its beginning and what comes behind it; or the one word that answers its line,
-- and is true in the state before it
abbrev pub IsWholeCall : Machine → ActorName → Op → List Label → Type 0
IsWholeCall m a op (labels.Began call begun end details ∷ rest) = (call.actor ≡ a) × (begun ≡ op) × AreStepsBehind (is_async (word_of_op op)) call end rest
IsWholeCall m a op (labels.Word who word said ∷ rest) = (who ≡ Actor a) × (word ≡ linewords.Op (word_of_op op)) × SaysTrueIn a op said m × (rest ≡ [])
IsWholeCall m a op log = ⊥

-- the beginning of a call of this actor with this operation, and no step; or the one word that answers its line, and is true in the state before it
abbrev pub IsBegunCall : Machine → ActorName → Op → List Label → Type 0
IsBegunCall m a op (labels.Began call begun end details ∷ rest) = (call.actor ≡ a) × (begun ≡ op) × (rest ≡ [])
IsBegunCall m a op (labels.Word who word said ∷ rest) = (who ≡ Actor a) × (word ≡ linewords.Op (word_of_op op)) × SaysTrueIn a op said m × (rest ≡ [])
IsBegunCall m a op log = ⊥

-- so many steps of a call and nothing else, fewer only where the last one ends it; none where it has ended
abbrev pub StepsUpTo : CallId → ℕ → Option Outcome → List Label → Type 0
StepsUpTo call n (Some end) rest = rest ≡ []
StepsUpTo call zero None rest = rest ≡ []
StepsUpTo call (suc n) None (labels.Stepped other op verb k r reply end details ∷ rest) = (other ≡ call) × StepsUpTo call n end rest
StepsUpTo call (suc n) None rest = ⊥

-- the call of which a line asks for steps: the one in hand under this name, an actor's or that of an asynchronous call
abbrev pub stepped_call : Machine → Who → Option CallState
stepped_call m who = m.in_hand who

-- such steps of this call; where there is none, the word IDLE
abbrev pub AreSteps : Option CallState → Who → LineWord → (CallId → List Label → Type 0) → List Label → Type 0
AreSteps None who word steps log = log ≡ labels.Word who word Idle ∷ []
AreSteps (Some s) who word steps log = steps s.call log

-- the replicas of a checkpoint, which the run says
abbrev pub IsListing : ℕ → List Label → Type 0
IsListing k (labels.Shown other replicas ∷ rest) = (other ≡ k) × (rest ≡ [])
IsListing k log = ⊥

-- in this state the labels answer the line; a race is not built yet
abbrev pub AnswersLine : Machine → Line → List Label → Type 0
AnswersLine m (lines.Nodes n) log = log ≡ labels.Nodes n ∷ []
AnswersLine m (lines.Call c op) log = IsWholeCall m (Client c) op log
AnswersLine m (lines.Begin a op) log = IsBegunCall m a op log
AnswersLine m (lines.Copy r) log = IsWholeCall m (Node r) ops.Copy log
AnswersLine m (lines.Step who n) log = AreSteps (stepped_call m who) who linewords.Step (λ call. StepsUpTo call n None) log
AnswersLine m (lines.Finish who) log = AreSteps (stepped_call m who) who linewords.Finish (λ call. StepsToEnd call None) log
AnswersLine m (lines.At t) log = log ≡ labels.Moved t ∷ []
AnswersLine m (lines.Pull k) log = IsPull k log
AnswersLine m (lines.Put k r) log = ArePuts k (r ∷ []) log
AnswersLine m (lines.Propagate k) log = IsPropagation k (other_nodes (entry_of k m.cluster.entries)) log
AnswersLine m (lines.Show k) log = IsListing k log
AnswersLine m (lines.Fail r) log = log ≡ labels.Failed r (is_up r m.cluster) ∷ []
AnswersLine m (lines.Join r) log = log ≡ labels.Joined r (join_answer r m.cluster) ∷ []
AnswersLine m line log = ⊥

-- from this state the lines come in order, each with its labels, no more than a line gives, and each in the state after
-- the labels before it
abbrev pub FollowsFrom : Machine → List Line → List Label → Type 0
FollowsFrom m [] log = log ≡ []
FollowsFrom m (line ∷ lines) log =
    (front : List Label) × (back : List Label) × (log ≡ front ++ back) × AnswersLine m line front × (length front ≤ line_labels_max)
    × FollowsFrom (last_from m front) lines back

-- the log has the lines in order, from the empty cluster
abbrev pub Follows : List Line → List Label → Type 0
Follows lines log = FollowsFrom empty_cluster lines log

-- the log is a front of one that follows the script: it has some first lines with all their labels, and of the next
-- one a front of its labels
abbrev pub FollowsFront : List Line → List Label → Type 0
FollowsFront lines log = (more : List Label) × Follows lines (log ++ more)
