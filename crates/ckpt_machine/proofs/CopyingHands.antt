-- Of a copying in hand: what it has pulled of a checkpoint, and what a label leaves of that, of the nodes of a checkpoint, and of one that comes to be complete.
use Rattle.std.proofs.Common.{◌≡◌, ◌≢◌, ◌⊎◌, ℕ, ◌≤◌, Option, Some, None, false}
use Rattle.ckpt_types.specs.declared.identities.ActorName.TheVariants.{Node}
use Rattle.ckpt_types.specs.declared.identities.CallId.{CallId}
use Rattle.ckpt_types.specs.declared.identities.Who.{Who}
use Rattle.ckpt_types.specs.Asks.{asked}
use Rattle.run_labels.specs.declared.labels.Label.{Label}
use Rattle.cluster_record.specs.declared.entries.Entry.{Entry}
use Rattle.cluster_record.specs.Placement.{is_all, is_collocated}
use Rattle.cluster_record.specs.RecordState.{RecordState, entry_of}
use Rattle.ckpt_machine.specs.Machine.{Machine, ReplicaState, Snapshot, CallState, who}
use Rattle.ckpt_machine.specs.Shape.{IsCompleteOn}
use Rattle.ckpt_machine.specs.Synchronized.{IsPullOf}
use Rattle.ckpt_machine.proofs.Askers.{IsCopyAsk}
use Rattle.ckpt_machine.proofs.Growing.{GoesOnIn, gone_by}

-- this copying is in hand, keeps the checkpoint, and has this of it
pub record HasInCopying (hands : Who → Option CallState) (call : CallId) (k : ℕ) (y : Snapshot) : Type 0 where
  pub state : CallState
  pub in_hand : hands (who state) ≡ Some state
  pub asks : IsCopyAsk (asked state.op)
  pub call_is : state.call ≡ call
  pub ckpt : state.kept.ckpt ≡ Some k
  pub snapshot : state.snapshot ≡ Some y

-- by this label the call has pulled this of the checkpoint; where updates go to the active alone, from the active
pub record IsPulledNow (m : Machine) (l : Label) (call : CallId) (k : ℕ) (y : Snapshot) : Type 0 where
  pub entry : Entry
  pub found : entry_of k m.cluster.entries ≡ Some entry
  pub node : ℕ
  pub pull : IsPullOf l call k node
  pub replica : ReplicaState
  pub there : m.replicas k node ≡ Some replica
  pub active : is_all entry.attributes ≡ false → entry.active ≡ Some node
  pub effects : replica.effects ≡ y.effects
  pub sections : replica.sections ≡ y.sections

-- the node lacked the checkpoint, and has now what its copying had in hand; where updates go to the active alone that was of the present generation
pub record IsCompletedNow (m : Machine) (k r : ℕ) (e f : Entry) (replicas : ℕ → ℕ → Option ReplicaState) : Type 0 where
  pub lacked : IsCompleteOn e r → ⊥
  pub call : CallId
  pub own : call.actor ≡ Node r
  pub pulled : Snapshot
  pub copying : HasInCopying m.in_hand call k pulled
  pub present : is_all e.attributes ≡ false → pulled.generation ≡ e.generation
  pub replica : ReplicaState
  pub there : replicas k r ≡ Some replica
  pub effects : replica.effects ≡ pulled.effects
  pub generation : replica.generation ≡ f.generation

-- WHAT A LABEL LEAVES: each checkpoint goes on; each node that was complete for one that was made is so still, but for a node that goes by the label; one of a checkpoint that is not collocated was so, or is completed now; and each copying in hand is of another node than the one that goes, and has what it had, or has pulled it now
pub record LeavesCopying (m : Machine) (l : Label) (R : RecordState) (replicas : ℕ → ℕ → Option ReplicaState) (hands : Who → Option CallState) : Type 0 where
  pub goes : (k : ℕ) → k ≤ m.cluster.last_identity → GoesOnIn m k (gone_by l) R replicas
  pub remains : (k r : ℕ) (e f : Entry) → entry_of k m.cluster.entries ≡ Some e → entry_of k R.entries ≡ Some f → e.making ≡ None → gone_by l ≢ Some r → IsCompleteOn e r → IsCompleteOn f r
  pub placed : (k r : ℕ) (e f : Entry) → entry_of k m.cluster.entries ≡ Some e → entry_of k R.entries ≡ Some f → e.making ≡ None → is_collocated e.attributes ≡ false → IsCompleteOn f r → IsCompleteOn e r ⊎ IsCompletedNow m k r e f replicas
  pub copies : (call : CallId) (k : ℕ) (y : Snapshot) → HasInCopying hands call k y → HasInCopying m.in_hand call k y ⊎ IsPulledNow m l call k y
  pub away : (call : CallId) (k r : ℕ) (y : Snapshot) → HasInCopying hands call k y → call.actor ≡ Node r → gone_by l ≢ Some r
