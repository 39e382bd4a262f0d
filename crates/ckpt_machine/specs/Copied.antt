-- What a copying promises: what it brings to the node that has come back, and what its OK says.
use Rattle.std.specs.Prelude.{◌≡◌, ℕ, List, [], ◌∷◌, ◌++◌, Some, None, IsSome, IsSomeAnd, false}
use Rattle.ckpt_types.specs.declared.answers.Outcome.TheVariants.{Done}
use Rattle.ckpt_types.specs.declared.identities.CallId.{CallId}
use Rattle.ckpt_types.specs.declared.operation.Op.TheVariants as ops
use Rattle.ckpt_types.specs.declared.words.OpWord.TheVariants as opwords
use Rattle.node_msgs.specs.declared.steps.Verb.TheVariants as verbs
use Rattle.node_msgs.specs.declared.steps.StepReply.TheVariants as words
use Rattle.run_labels.specs.declared.labels.Label.{Label}
use Rattle.run_labels.specs.declared.labels.Label.TheVariants as labels
use Rattle.cluster_record.specs.declared.entries.Entry.{Entry}
use Rattle.cluster_record.specs.DueCopy.{node_of}
use Rattle.cluster_record.specs.Placement.{is_collocated}
use Rattle.cluster_record.specs.RecordState.{entry_of}
use Rattle.ckpt_machine.specs.Acknowledged.{HasBegun}
use Rattle.ckpt_machine.specs.Machine.{Machine, ReplicaState}
use Rattle.ckpt_machine.specs.Runs.{last}
use Rattle.ckpt_machine.specs.Shape.{IsCompleteOn}
use Rattle.ckpt_machine.specs.Synchronized.{IsPullOf}

-- the label answers OK to the copying that this call is
abbrev pub AnswersCopy : Label → CallId → Type 0
AnswersCopy (labels.Stepped call opwords.Copy verb k r reply (Some (Done answer)) details) d = call ≡ d
AnswersCopy label d = ⊥

-- each checkpoint that is made and not collocated has a complete replica on the node
abbrev pub HasEach : Machine → ℕ → Type 0
HasEach m r = (k : ℕ) (e : Entry) → entry_of k m.cluster.entries ≡ Some e → e.making ≡ None → is_collocated e.attributes ≡ false
    → IsCompleteOn e r × IsSome (m.replicas k r)

-- the label is the completion of a checkpoint on a node, by this call
abbrev pub Completes : Label → CallId → ℕ → ℕ → Type 0
Completes (labels.Stepped call opwords.Copy verbs.Complete (Some k) (Some r) words.Ok end details) d j q = (call ≡ d) × (k ≡ j) × (r ≡ q)
Completes label d j q = ⊥

-- in the log the call has pulled from a replica of the checkpoint, which was complete, and began in front of that as a copying; and what the node has of it
-- behind the log, which is the call's own, is just what that had then, in the present generation of the checkpoint
pub record WasCopied (log : List Label) (call : CallId) (k r : ℕ) : Type 0 where
  pub before : List Label
  pub behind : List Label
  pub pull : Label
  pub node : ℕ
  pub log_is : log ≡ before ++ pull ∷ behind
  pub begun : HasBegun before call ops.Copy None
  pub own : node_of call.actor ≡ r
  pub pull_is : IsPullOf pull call k node
  pub source : ReplicaState
  pub there : (last before).replicas k node ≡ Some source
  pub replica : ReplicaState
  pub has : (last log).replicas k r ≡ Some replica
  pub effects : replica.effects ≡ source.effects
  pub sections : replica.sections ≡ source.sections
  pub generation : IsSomeAnd (entry_of k (last log).cluster.entries) (λ e. replica.generation ≡ e.generation)

-- WHAT A COPYING LEAVES: behind each completion the node has what was pulled, and behind an OK it has each checkpoint that it may have; and the call began
-- in the log as a copying
pub record CopiesTell (log : List Label) : Type 0 where
  pub completed : (front back : List Label) (l : Label) (call : CallId) (k r : ℕ) → log ≡ front ++ l ∷ back → Completes l call k r
      → WasCopied (front ++ l ∷ []) call k r
  pub ended : (front back : List Label) (l : Label) (call : CallId) → log ≡ front ++ l ∷ back → AnswersCopy l call
      → HasBegun front call ops.Copy None × HasEach (last (front ++ l ∷ [])) (node_of call.actor)
