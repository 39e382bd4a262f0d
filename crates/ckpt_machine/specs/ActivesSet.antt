-- What the setting of an active leaves that was answered OK.
use Rattle.std.specs.Prelude.{◌≡◌, ◌⊎◌, ℕ, List, [], ◌∷◌, ◌++◌, Some, None, IsSomeAnd, true}
use Rattle.ckpt_types.specs.declared.answers.Outcome.TheVariants.{Done}
use Rattle.ckpt_types.specs.declared.identities.CallId.{CallId}
use Rattle.ckpt_types.specs.declared.operation.Op.{Op}
use Rattle.ckpt_types.specs.declared.operation.Op.TheVariants as ops
use Rattle.ckpt_types.specs.declared.words.OpWord.TheVariants as opwords
use Rattle.ckpt_types.specs.OpWord.{word_of_op}
use Rattle.node_msgs.specs.declared.steps.StepReply.TheVariants as words
use Rattle.node_msgs.specs.declared.steps.Verb.TheVariants as verbs
use Rattle.run_labels.specs.declared.labels.Label.{Label}
use Rattle.run_labels.specs.declared.labels.Label.TheVariants as labels
use Rattle.cluster_record.specs.declared.entries.Entry.{Entry}
use Rattle.cluster_record.specs.Calls.{client_of}
use Rattle.cluster_record.specs.Placement.{is_collocated}
use Rattle.cluster_record.specs.RecordState.{entry_of, home_of, is_live_client}
use Rattle.ckpt_machine.specs.Acknowledged.{HasBegun}
use Rattle.ckpt_machine.specs.Machine.{Machine, Effect, ReplicaState}
use Rattle.ckpt_machine.specs.Runs.{last}

-- the label answers OK to this call, which asks by its word for its client's node as the active: by a step, or at its beginning
abbrev pub SetsActive : Label → CallId → Type 0
SetsActive (labels.Began call (ops.Active place) (Some (Done answer)) details) d = call ≡ d
SetsActive (labels.Stepped call opwords.Active verb k r reply (Some (Done answer)) details) d = call ≡ d
SetsActive label d = ⊥

-- the label is the hold by this call of a checkpoint, of which it names the node
abbrev pub IsHoldOf : Label → CallId → ℕ → ℕ → Type 0
IsHoldOf (labels.Stepped call word verbs.Hold (Some k) (Some r) words.Ok end details) d j q = (call ≡ d) × (k ≡ j) × (r ≡ q)
IsHoldOf label d j q = ⊥

-- the node was the active of the checkpoint, whose replica had just these effects
pub record WasActiveWith (m : Machine) (k r : ℕ) (effects : List Effect) : Type 0 where
  pub active : IsSomeAnd (entry_of k m.cluster.entries) (λ e. e.active ≡ Some r)
  pub replica : ReplicaState
  pub there : m.replicas k r ≡ Some replica
  pub effects_are : effects ≡ replica.effects

-- the call has held the checkpoint in the log, when the active had these effects
pub record HasHeld (log : List Label) (call : CallId) (k : ℕ) (effects : List Effect) : Type 0 where
  pub before : List Label
  pub behind : List Label
  pub hold : Label
  pub node : ℕ
  pub log_is : log ≡ before ++ hold ∷ behind
  pub hold_is : IsHoldOf hold call k node
  pub held : WasActiveWith (last before) k node effects

-- no other node was the active, and the replica of this one had these effects
pub record HadNoOther (m : Machine) (k r : ℕ) (effects : List Effect) : Type 0 where
  pub active : IsSomeAnd (entry_of k m.cluster.entries) (λ e. (e.active ≡ None) ⊎ (e.active ≡ Some r))
  pub replica : ReplicaState
  pub there : m.replicas k r ≡ Some replica
  pub effects_are : effects ≡ replica.effects

-- behind the log and this label: the call began in the log with such an operation on the checkpoint, which is there, collocated, held by no call, and
-- led by the node of the call's client, which is live
pub record IsActiveSet (log : List Label) (l : Label) (call : CallId) : Type 0 where
  pub op : Op
  pub word : word_of_op op ≡ opwords.Active
  pub ckpt : ℕ
  pub begun : HasBegun log call op (Some ckpt)
  pub entry : Entry
  pub found : entry_of ckpt (last (log ++ l ∷ [])).cluster.entries ≡ Some entry
  pub made : entry.making ≡ None
  pub collocated : is_collocated entry.attributes ≡ true
  pub free : entry.hold ≡ None
  pub live : is_live_client (client_of call) (last (log ++ l ∷ [])).cluster ≡ true
  pub node : ℕ
  pub node_is : node ≡ home_of (client_of call) (last (log ++ l ∷ [])).cluster
  pub active : entry.active ≡ Some node
  -- its replica is of the checkpoint's generation
  pub replica : ReplicaState
  pub there : (last (log ++ l ∷ [])).replicas ckpt node ≡ Some replica
  pub present : replica.generation ≡ entry.generation
  -- it has just the effects that the active had when the call held the checkpoint; or else those that it had, where no other node was the active
  pub from : HasHeld log call ckpt replica.effects ⊎ HadNoOther (last log) ckpt node replica.effects
  -- and whenever the call held a checkpoint, it was this one, whose active had these effects
  pub held : (before behind : List Label) (hold : Label) (k r : ℕ) → log ≡ before ++ hold ∷ behind → IsHoldOf hold call k r
      → (k ≡ ckpt) × WasActiveWith (last before) k r replica.effects

-- WHAT THE SETTING OF AN ACTIVE LEAVES: behind each label that answers OK to one
abbrev pub ActivesAreSet : List Label → Type 0
ActivesAreSet log = (front back : List Label) (l : Label) (call : CallId) → log ≡ front ++ l ∷ back → SetsActive l call → IsActiveSet front l call
