-- What an event does to the world, with the label that answers it.
use Rattle.std.specs.Prelude.{◌≡◌, ◌≢◌, ◌⊎◌, ℕ, ◌<◌, ◌≤◌, [], ◌∷◌, ◌++◌, Option, Some, Bool, ℤ}
use Rattle.ckpt_types.specs.declared.answers.Outcome.{Outcome}
use Rattle.ckpt_types.specs.declared.identities.ActorName.{ActorName}
use Rattle.ckpt_types.specs.declared.identities.CallId.{CallId}
use Rattle.ckpt_types.specs.declared.identities.Who.{Who}
use Rattle.ckpt_types.specs.declared.identities.Who.TheVariants.{Actor}
use Rattle.ckpt_types.specs.OpWord.{word_of_op, stepped_as}
use Rattle.cluster_record.specs.Makings.{makings_of}
use Rattle.ckpt_types.specs.declared.operation.Op.{Op}
use Rattle.ckpt_types.specs.Limits.{nodes_max}
use Rattle.node_msgs.specs.declared.next.Next.{Next}
use Rattle.run_labels.specs.Kept.{KeptLabels}
use Rattle.node_msgs.specs.declared.details.Details.{Details}
use Rattle.run_labels.specs.declared.labels.Label.{Label}
use Rattle.run_labels.specs.declared.labels.Label.TheVariants as labels
use Rattle.node_msgs.specs.declared.steps.StepReply.{StepReply}
use Rattle.ckpt_types.specs.declared.words.OpWord.{OpWord}
use Rattle.node_msgs.specs.declared.steps.Verb.{Verb}
use Rattle.ckpt_machine.specs.Drivers.{Rooms}
use Rattle.client_calls.specs.declared.in_hand.InHand.{InHand}
use Rattle.world_core.specs.TablesState.{kept_by}
use Rattle.world_core.specs.declared.world.Event.{Event}
use Rattle.world_core.specs.declared.world.Event.TheVariants as happenings
use Rattle.world_core.specs.declared.world.World.{World}
use Rattle.cluster_record.specs.Calls.{left}
use Rattle.cluster_record.specs.RecordState.{empty_record, is_up, IsMomentFrom}
use Rattle.ckpt_machine.specs.Driving.{driver_next}
use Rattle.ckpt_machine.specs.NodeJoins.{join_answer}
use Rattle.ckpt_types.specs.Asks.{MayAsk, asked, IsBuilt}
use Rattle.ckpt_machine.specs.Tables.{rooms_in}
use Rattle.client_calls.specs.Names.{client_by}
use Rattle.world_core.specs.HandsState.{hand_at}
use Rattle.world_core.specs.Shows.{Does}
use Rattle.world_core.specs.Runs.{AnswersBegin, GoesOn, MayBeStepped, HasNothingToStep, IsIdleWord, IsShownOf, IsPulledOf, IsPutOf}

-- the log has one label more, of which this holds
pub record Adds (old new : KeptLabels) (holds : Label → Type 0) : Type 0 where
  pub label : Label
  pub labels : new.labels ≡ old.labels ++ label ∷ []
  pub is : holds label

-- what the client's tables have a free place for
abbrev pub rooms_at : World → ℕ → Rooms
rooms_at w c = rooms_in (makings_of c w.cluster.entries) (kept_by w.tables c)

-- this is next for the call that is in hand under a name
pub record IsNext (w : World) (v : Who) (next : Next) : Type 0 where
  pub hand : InHand
  pub held : hand_at w.hands v ≡ Some hand
  pub next_is : driver_next w.cluster (rooms_at w (client_by v)) hand.driver ≡ next

-- the calls for which clients and nodes wait are in hand as they were, but that of a name
abbrev pub KeepsOther : Who → World → World → Type 0
KeepsOther v old new = (b : ActorName) → Actor b ≢ v → hand_at new.hands (Actor b) ≡ hand_at old.hands (Actor b)

-- the call in hand under a name takes a step: it is in hand after it just where the step did not end it
pub record IsStep (v : Who) (old new : World) (label : Label) : Type 0 where
  pub hand : InHand
  pub held : hand_at old.hands v ≡ Some hand
  pub op : OpWord
  pub verb : Verb
  pub ckpt : Option ℕ
  pub node : Option ℕ
  pub reply : StepReply
  pub end : Option Outcome
  pub details : Details
  pub label_is : label ≡ labels.Stepped hand.call op verb ckpt node reply end details
  pub next : InHand
  pub same_call : next.call ≡ hand.call
  pub same_op : next.op ≡ hand.op
  pub here : hand_at new.hands v ≡ left end next
  pub others : KeepsOther v old new
  pub does : Does old new label

-- a word says that nothing is in hand to step
pub record IsIdle (who : Who) (finish : Bool) (old new : World) (label : Label) : Type 0 where
  pub none : HasNothingToStep who old
  pub word : IsIdleWord who finish old new label
  pub does : Does old new label

-- the actor's call begins: it is in hand, under its name, just where it goes on
pub record IsBeginning (a : ActorName) (op : Op) (old new : World) (call : CallId) (begun : Op) (end : Option Outcome) : Type 0 where
  pub actor : call.actor ≡ a
  pub op_is : begun ≡ op
  pub here : GoesOn call op end (hand_at new.hands (stepped_as call (word_of_op op)))
  pub others : KeepsOther (stepped_as call (word_of_op op)) old new

-- the label is the beginning of this actor's call, or a word that answers its line
abbrev pub BeginsOrSays : ActorName → Op → World → World → Label → Type 0
BeginsOrSays a op old new (labels.Began call begun end details) = IsBeginning a op old new call begun end
BeginsOrSays a op old new label = AnswersBegin a op old new label

-- a call begins, or a word answers its line
pub record Begins (a : ActorName) (op : Op) (old new : World) (label : Label) : Type 0 where
  pub begins : BeginsOrSays a op old new label
  pub does : Does old new label

-- the first nodes come up, and no call in hand changes
pub record BringsUp (n : ℕ) (old new : World) (label : Label) : Type 0 where
  pub label_is : label ≡ labels.Nodes n
  pub hands : new.hands ≡ old.hands
  pub does : Does old new label

-- the replicas of a checkpoint are told, and the world is as it was
pub record TellsReplicas (k : ℕ) (old new : World) (label : Label) : Type 0 where
  pub label_is : IsShownOf k label
  pub same : new ≡ old
  pub does : Does old new label

-- a snapshot is taken or put, as this label tells, and nothing that a call or a client keeps changes
pub record Propagates (tells : Label → Type 0) (old new : World) (label : Label) : Type 0 where
  pub label_is : tells label
  pub hands : new.hands ≡ old.hands
  pub moment : new.cluster.moment ≡ old.cluster.moment
  pub does : Does old new label

-- the moment is set, and the calls in hand are as they were
pub record SetsMoment (t : ℤ) (old new : World) (label : Label) : Type 0 where
  pub label_is : label ≡ labels.Moved t
  pub hands : new.hands ≡ old.hands
  pub does : Does old new label

-- a node fails, where it is up, and the moment is as it was
pub record Fails (r : ℕ) (old new : World) (label : Label) : Type 0 where
  pub label_is : label ≡ labels.Failed r (is_up r old.cluster)
  pub moment : new.cluster.moment ≡ old.cluster.moment
  pub does : Does old new label

-- a node joins, where it is not up, and the calls in hand and the moment are as they were
pub record Joins (r : ℕ) (old new : World) (label : Label) : Type 0 where
  pub label_is : label ≡ labels.Joined r (join_answer r old.cluster)
  pub hands : new.hands ≡ old.hands
  pub moment : new.cluster.moment ≡ old.cluster.moment
  pub does : Does old new label

-- what the event asks of the world
abbrev pub ComesNow : World → Event → Type 0
ComesNow w (happenings.Nodes n) = (0 < n) × (n ≤ nodes_max) × (w.cluster ≡ empty_record)
ComesNow w (happenings.Begin a op) = MayAsk a (asked op) × IsBuilt op
ComesNow w (happenings.Step who finish) = MayBeStepped who
ComesNow w (happenings.Show k) = Unit {0}
ComesNow w (happenings.At t) = IsMomentFrom w.cluster.moment t
ComesNow w (happenings.Pull k) = Unit {0}
ComesNow w (happenings.Put k r) = r < nodes_max
ComesNow w (happenings.Fail r) = r < nodes_max
ComesNow w (happenings.Join r) = r < nodes_max

-- what the event does, with the label that answers it
abbrev pub IsAnswered : Event → World → World → Label → Type 0
IsAnswered (happenings.Nodes n) old new label = BringsUp n old new label
IsAnswered (happenings.Begin a op) old new label = Begins a op old new label
IsAnswered (happenings.Step who finish) old new label = IsStep who old new label ⊎ IsIdle who finish old new label
IsAnswered (happenings.Show k) old new label = TellsReplicas k old new label
IsAnswered (happenings.At t) old new label = SetsMoment t old new label
IsAnswered (happenings.Pull k) old new label = Propagates (IsPulledOf k) old new label
IsAnswered (happenings.Put k r) old new label = Propagates (IsPutOf k r) old new label
IsAnswered (happenings.Fail r) old new label = Fails r old new label
IsAnswered (happenings.Join r) old new label = Joins r old new label
