-- Runs of the machine.
use Rattle.std.specs.Prelude.{◌≡◌, ℕ, ◌+◌, ◌≤◌, List, [], ◌∷◌, length, Some, slice_index}
use Rattle.ckpt_types.specs.declared.identities.ActorName.{ActorName}
use Rattle.ckpt_types.specs.declared.identities.Who.{Who}
use Rattle.run_labels.specs.declared.labels.Label.{Label}
use Rattle.cluster_record.specs.declared.entries.Entry.{Entry}
use Rattle.cluster_record.specs.RecordState.{entry_of}
use Rattle.ckpt_machine.specs.Machine.{Machine, ReplicaState, Snapshot, CallState, empty_cluster}
use Rattle.ckpt_machine.specs.After.{after}
use Rattle.ckpt_machine.specs.Due.{IsDue}
use Rattle.ckpt_machine.specs.Guards.{Allowed}

-- the state after a list of labels
abbrev pub last_from : Machine → List Label → Machine
last_from m [] = m
last_from m (l ∷ ls) = last_from (after m l) ls

-- the state after a list of labels, from the empty cluster
abbrev pub last : List Label → Machine
last log = last_from empty_cluster log

-- each label is allowed where it comes, and is the due one
abbrev pub IsRunFrom : Machine → List Label → Type 0
IsRunFrom m [] = Unit {0}
IsRunFrom m (l ∷ ls) = Allowed m l × IsDue m l × IsRunFrom (after m l) ls

-- the log is a run of the checkpoint machine from the empty cluster
abbrev pub IsRun : List Label → Type 0
IsRun log = IsRunFrom empty_cluster log

-- ---- counts

-- what counts up is no more than so many
pub record Counts (m : Machine) (n : ℕ) : Type 0 where
  pub next : (a : ActorName) → m.next a ≤ n + 1
  pub last_handles : (a : ActorName) → (m.tables a).last_number ≤ n
  pub last_iterations : (a : ActorName) → (m.tables a).last_iteration ≤ n
  pub effects : (k r : ℕ) (x : ReplicaState) → m.replicas k r ≡ Some x → length x.effects ≤ n
  pub snapshots : (k : ℕ) (s : Snapshot) → m.snapshots k ≡ Some s → length s.effects ≤ n
  pub copies : (w : Who) (s : CallState) (x : Snapshot) → m.in_hand w ≡ Some s → s.snapshot ≡ Some x → length x.effects ≤ n
  pub identity : m.cluster.last_identity ≤ n
  pub generations : (k : ℕ) (e : Entry) → entry_of k m.cluster.entries ≡ Some e → e.generation ≤ n + 1
  pub references : (k : ℕ) (e : Entry) (c : ℕ) → entry_of k m.cluster.entries ≡ Some e → slice_index e.references c ≤ n
  pub incarnations : (r : ℕ) → slice_index m.cluster.last_incarnations r ≤ n
