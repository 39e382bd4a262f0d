-- Runs of the machine that the world shows.
use Rattle.std.specs.Prelude.{◌≡◌, ◌≢◌, ℕ, ◌-◌, ◌<◌, ◌≤◌, ◌^◌, List, [], ◌∷◌, ◌++◌, length, replicate, Option, Some, None, is_none, Bool, true, false, ℤ, slice_get}
use Rattle.ckpt_types.specs.declared.answers.Outcome.{Outcome}
use Rattle.ckpt_types.specs.declared.identities.ActorName.{ActorName}
use Rattle.ckpt_types.specs.declared.identities.ActorName.TheVariants.{Client, Node}
use Rattle.ckpt_types.specs.declared.identities.CallId.{CallId}
use Rattle.ckpt_types.specs.declared.identities.Who.{Who}
use Rattle.ckpt_types.specs.declared.identities.Who.TheVariants as whos
use Rattle.ckpt_types.specs.declared.operation.Op.{Op}
use Rattle.ckpt_types.specs.declared.operation.Op.TheVariants as ops
use Rattle.ckpt_types.specs.Limits.{client_numbers, nodes_max}
use Rattle.run_labels.specs.declared.labels.Label.{Label}
use Rattle.run_labels.specs.declared.labels.Label.TheVariants as labels
use Rattle.run_labels.specs.declared.words.LineWord.TheVariants as linewords
use Rattle.run_labels.specs.declared.words.Said.{Said}
use Rattle.run_labels.specs.declared.words.Said.TheVariants.{Down, Idle}
use Rattle.ckpt_types.specs.OpWord.{word_of_op, stepped_as}
use Rattle.ckpt_machine.specs.After.{goes_on}
use Rattle.client_calls.specs.declared.in_hand.InHand.{InHand}
use Rattle.world_core.specs.declared.world.Event.{Event}
use Rattle.world_core.specs.declared.world.Event.TheVariants as happenings
use Rattle.world_core.specs.declared.world.World.{World}
use Rattle.cluster_record.specs.RecordState.{RecordState, empty_record, is_up, IsMomentFrom}
use Rattle.call_dispatch.specs.PendingCalls.{no_pending}
use Rattle.client_calls.specs.TableState.{next_in}
use Rattle.world_core.specs.TablesState.{kept_by, pending_by}
use Rattle.ckpt_types.specs.Asks.{MayAsk, asked, IsBuilt}
use Rattle.ckpt_machine.specs.Machine.{no_tables}
use Rattle.ckpt_machine.specs.NodeJoins.{join_answer}
use Rattle.world_core.specs.HandsState.{hand_at}
use Rattle.world_core.specs.Shows.{Shows, number_in}
use Rattle.ckpt_machine.specs.Runs.{last, IsRun}
use Rattle.client_calls.specs.LineWords.{step_word}

-- ---- the world after a log

-- the log is a run, and the world shows the state after it
pub record IsRunTo (w : World) (log : List Label) : Type 0 where
  pub run : IsRun log
  pub shows : Shows w (last log)

-- the world as it begins
pub record IsNew (w : World) : Type 0 where
  pub cluster : w.cluster ≡ empty_record
  pub nodes : w.nodes ≡ replicate nodes_max []
  pub snapshots : w.snapshots ≡ []
  pub next : (c : ℕ) → next_in (slice_get w.tables c) ≡ 1
  pub numbers : (r : ℕ) → number_in (slice_get w.numbers r) ≡ 1
  pub tables : (c : ℕ) → kept_by w.tables c ≡ no_tables
  pub pending : (c : ℕ) → pending_by w.tables c ≡ no_pending
  pub hands : (v : Who) → hand_at w.hands v ≡ None

-- a new world shows the empty cluster, behind no label
abbrev pub NewBeginsRuns : Type 0
NewBeginsRuns = (w : World) → IsNew w → IsRunTo w []

-- ---- events

-- a client that a script may name, a node, or an asynchronous call
abbrev pub MayBeStepped : Who → Type 0
MayBeStepped (whos.Actor (Client c)) = c < client_numbers
MayBeStepped who = Unit {0}

-- the events that may come: up to eight nodes first, then calls of clients and copyings of nodes that begin and are stepped in any order, moments, shows,
-- pulls and puts, and failures and joins of nodes
abbrev pub Comes : World → List Label → Event → Type 0
Comes w log (happenings.Nodes n) = (0 < n) × (n ≤ nodes_max) × (log ≡ [])
Comes w log (happenings.Begin a op) = MayAsk a (asked op) × IsBuilt op
Comes w log (happenings.Step who finish) = MayBeStepped who
Comes w log (happenings.At t) = IsMomentFrom w.cluster.moment t
Comes w log (happenings.Show k) = Unit {0}
Comes w log (happenings.Pull k) = Unit {0}
Comes w log (happenings.Put k r) = r < nodes_max
Comes w log (happenings.Fail r) = r < nodes_max
Comes w log (happenings.Join r) = r < nodes_max

-- the event happens whatever memory there is, where the log has room for its label: nodes come up, fail and join, the moment is set, and a background
-- snapshot is pulled and put without any; and a copying that is refused its own begins and ends with that
abbrev pub IsSureToHappen : Event → Type 0
IsSureToHappen (happenings.Nodes n) = Unit {0}
IsSureToHappen (happenings.Begin (Node r) op) = Unit {0}
IsSureToHappen (happenings.At t) = Unit {0}
IsSureToHappen (happenings.Pull k) = Unit {0}
IsSureToHappen (happenings.Put k r) = Unit {0}
IsSureToHappen (happenings.Fail r) = Unit {0}
IsSureToHappen (happenings.Join r) = Unit {0}
IsSureToHappen event = ⊥

-- this call is in hand
abbrev pub IsThere : CallId → Op → Option InHand → Type 0
IsThere call op None = ⊥
IsThere call op (Some h) = (h.call ≡ call) × (h.op ≡ op)

-- it is in hand where it goes on, and no call is where it does not
abbrev pub IsThereIf : Bool → CallId → Op → Option InHand → Type 0
IsThereIf true call op hand = IsThere call op hand
IsThereIf false call op hand = hand ≡ None

-- a call is in hand behind its beginning just where it goes on
abbrev pub GoesOn : CallId → Op → Option Outcome → Option InHand → Type 0
GoesOn call op end hand = IsThereIf (goes_on (word_of_op op) end) call op hand

-- and behind a step just where this has not ended it
abbrev pub IsLeft : CallId → Op → Option Outcome → Option InHand → Type 0
IsLeft call op end hand = IsThereIf (is_none end) call op hand

-- the actor is a node that is not up
abbrev pub IsDown : ActorName → RecordState → Type 0
IsDown (Client c) R = ⊥
IsDown (Node r) R = is_up r R ≡ false

-- DOWN is said of a node that is not up: the one that an Initialize names, or the one that is to copy
abbrev pub SaysTrue : ActorName → Op → Said → World → Type 0
SaysTrue a (ops.Client r version callbacks) Down w = is_up r w.cluster ≡ false
SaysTrue a ops.Copy Down w = IsDown a w.cluster
SaysTrue a op Down w = ⊥
SaysTrue a op said w = Unit {0}

-- the label that answers the beginning of a call: its beginning, or a word that leaves the calls in hand as they are
abbrev pub AnswersBegin : ActorName → Op → World → World → Label → Type 0
AnswersBegin a op old new (labels.Began call begun end details) =
    (call.actor ≡ a) × (begun ≡ op) × GoesOn call op end (hand_at new.hands (stepped_as call (word_of_op op)))
AnswersBegin a op old new (labels.Word who word said) =
    (who ≡ whos.Actor a) × (word ≡ linewords.Op (word_of_op op)) × (new.hands ≡ old.hands) × SaysTrue a op said old
AnswersBegin a op old new label = ⊥

-- the label that answers a step of the call in hand under a name: its next step
abbrev pub IsStepOf : Who → Option InHand → World → World → Label → Type 0
IsStepOf v (Some h) old new (labels.Stepped call op verb k r reply end details) = (call ≡ h.call) × IsLeft h.call h.op end (hand_at new.hands v)
IsStepOf v hand old new label = ⊥

-- the label answers a line that steps a call with IDLE, and the calls in hand are as they were
abbrev pub IsIdleWord : Who → Bool → World → World → Label → Type 0
IsIdleWord whose finish old new (labels.Word who word said) = (who ≡ whose) × (word ≡ step_word finish) × (said ≡ Idle) × (new.hands ≡ old.hands)
IsIdleWord whose finish old new label = ⊥

-- the label that answers a line which steps a call: IDLE where none is in hand under the name, else its next step
abbrev pub AnswersStep : Who → Bool → Option InHand → World → World → Label → Type 0
AnswersStep v finish None old new label = IsIdleWord v finish old new label
AnswersStep v finish (Some h) old new label = IsStepOf v (Some h) old new label

-- nothing is in hand under the name
abbrev pub HasNothingToStep : Who → World → Type 0
HasNothingToStep v w = hand_at w.hands v ≡ None

-- the label tells the replicas of this checkpoint
abbrev pub IsShownOf : ℕ → Label → Type 0
IsShownOf k (labels.Shown other replicas) = other ≡ k
IsShownOf k label = ⊥

-- the label tells a pull of this checkpoint
abbrev pub IsPulledOf : ℕ → Label → Type 0
IsPulledOf k (labels.Pulled other reply) = other ≡ k
IsPulledOf k label = ⊥

-- the label tells a put of this checkpoint at this node
abbrev pub IsPutOf : ℕ → ℕ → Label → Type 0
IsPutOf k r (labels.Put other node reply) = (other ≡ k) × (node ≡ r)
IsPutOf k r label = ⊥

-- a label answers an event
abbrev pub Answers : Event → World → World → Label → Type 0
Answers (happenings.Nodes n) old new label = (label ≡ labels.Nodes n) × (new.hands ≡ old.hands)
Answers (happenings.Begin a op) old new label = AnswersBegin a op old new label
Answers (happenings.Step who finish) old new label = AnswersStep who finish (hand_at old.hands who) old new label
Answers (happenings.At t) old new label = (label ≡ labels.Moved t) × (new.hands ≡ old.hands)
Answers (happenings.Show k) old new label = IsShownOf k label × (new.hands ≡ old.hands)
Answers (happenings.Pull k) old new label = IsPulledOf k label × (new.hands ≡ old.hands)
Answers (happenings.Put k r) old new label = IsPutOf k r label × (new.hands ≡ old.hands)
Answers (happenings.Fail r) old new label = (label ≡ labels.Failed r (is_up r old.cluster)) × (new.cluster.moment ≡ old.cluster.moment)
Answers (happenings.Join r) old new label =
    (label ≡ labels.Joined r (join_answer r old.cluster)) × (new.hands ≡ old.hands) × (new.cluster.moment ≡ old.cluster.moment)

-- the calls for which other clients and nodes wait are as they were
abbrev pub KeepsOthers : Event → World → World → Type 0
KeepsOthers (happenings.Begin a op) old new = (b : ActorName) → b ≢ a → hand_at new.hands (whos.Actor b) ≡ hand_at old.hands (whos.Actor b)
KeepsOthers (happenings.Step who finish) old new =
    (b : ActorName) → whos.Actor b ≢ who → hand_at new.hands (whos.Actor b) ≡ hand_at old.hands (whos.Actor b)
KeepsOthers event old new = Unit {0}

-- the moment after an event; the first is the one before it
abbrev pub moment_of : Event → ℤ → ℤ
moment_of (happenings.At t) before = t
moment_of event before = before

-- one label more, which answers the event
pub record Happens (event : Event) (old new : World) (log longer : List Label) : Type 0 where
  pub label : Label
  pub grows : longer ≡ log ++ label ∷ []
  pub answers : Answers event old new label
  pub others : KeepsOthers event old new
  pub moment : new.cluster.moment ≡ moment_of event old.cluster.moment

-- an event that may come, in the world after a log
pub record MayHappen (w : World) (log : List Label) (event : Event) : Type 0 where
  pub run : IsRunTo w log
  pub few : length log < 2 ^ 32 - 2
  pub comes : Comes w log event
