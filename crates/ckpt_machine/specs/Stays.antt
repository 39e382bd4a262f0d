-- What is there stays: which labels take effects from a replica, and which take a replica away.
use Rattle.std.specs.Prelude.{◌≡◌, ◌⊎◌, ◌<◌, ℕ, List, [], ◌∷◌, ◌++◌, Some, None, IsSomeAnd, true, false}
use Rattle.node_msgs.specs.declared.steps.StepReply.TheVariants as words
use Rattle.node_msgs.specs.declared.steps.Verb.TheVariants as verbs
use Rattle.run_labels.specs.declared.labels.Label.{Label}
use Rattle.run_labels.specs.declared.labels.Label.TheVariants as labels
use Rattle.run_labels.specs.declared.labels.PutReply.TheVariants as puts
use Rattle.cluster_record.specs.Placement.{is_all}
use Rattle.cluster_record.specs.RecordState.{entry_of}
use Rattle.ckpt_machine.specs.Machine.{Machine, ReplicaState}
use Rattle.ckpt_machine.specs.Replays.{IsPrefix}
use Rattle.ckpt_machine.specs.Runs.{last}

-- by the label the replica of a checkpoint on a node takes over as a whole what another has: from the background snapshot, by a put that was done; from a
-- synchronisation, which installs there; or as its node is set as the active
abbrev pub Replaces : Label → ℕ → ℕ → Type 0
Replaces (labels.Put k r (puts.Ok count)) j q = (k ≡ j) × (r ≡ q)
Replaces (labels.Stepped call word verbs.Install (Some k) (Some r) words.Ok end details) j q = (k ≡ j) × (r ≡ q)
Replaces (labels.Stepped call word verbs.Activate (Some k) (Some r) words.Ok end details) j q = (k ≡ j) × (r ≡ q)
Replaces label j q = ⊥

-- in this state the replica is of an older generation than its checkpoint, whose updates go to the active alone
abbrev pub IsOlder : Machine → ℕ → ReplicaState → Type 0
IsOlder m k x = IsSomeAnd (entry_of k m.cluster.entries) (λ e. (is_all e.attributes ≡ false) × (x.generation < e.generation))

-- WHAT IS THERE STAYS: at each label of the log, of each replica that is there in front of it
pub record ReplicasStay (log : List Label) : Type 0 where
  -- if it is there behind the label, it has its effects first, and others behind them; or the label replaces it, and it was older than its checkpoint is then
  pub grows : (front back : List Label) (l : Label) (k r : ℕ) (x y : ReplicaState) → log ≡ front ++ l ∷ back → (last front).replicas k r ≡ Some x
      → (last (front ++ l ∷ [])).replicas k r ≡ Some y → IsPrefix x.effects y.effects ⊎ (Replaces l k r × IsOlder (last (front ++ l ∷ [])) k x)
  -- if it is not, the label tells the failure of its node, or its checkpoint is not there any more
  pub goes : (front back : List Label) (l : Label) (k r : ℕ) (x : ReplicaState) → log ≡ front ++ l ∷ back → (last front).replicas k r ≡ Some x
      → (last (front ++ l ∷ [])).replicas k r ≡ None → (l ≡ labels.Failed r true) ⊎ (entry_of k (last (front ++ l ∷ [])).cluster.entries ≡ None)
