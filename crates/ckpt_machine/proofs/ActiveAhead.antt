-- Where updates go to the active alone, each replica that follows the active has only what this has taken first.
use Rattle.std.proofs.Common.{◌≡◌, ℕ, List, Some, false}
use Rattle.run_labels.specs.declared.labels.Label.{Label}
use Rattle.cluster_record.specs.declared.entries.Entry.{Entry}
use Rattle.cluster_record.specs.RecordState.{entry_of}
use Rattle.ckpt_machine.specs.Machine.{ReplicaState}
use Rattle.cluster_record.specs.Placement.{is_all}
use Rattle.ckpt_machine.specs.Replays.{IsToFollow, IsPrefix}
use Rattle.ckpt_machine.specs.Runs.{last, IsRun}
use Rattle.ckpt_machine.proofs.EachReplica.{run_copies}

-- THE LAW: each such replica has only what the active has taken first
pub run_prefix : (log : List Label) → IsRun log → (k q r : ℕ) (e : Entry) (x y : ReplicaState) → entry_of k (last log).cluster.entries ≡ Some e → is_all e.attributes ≡ false → e.active ≡ Some r → (last log).replicas k r ≡ Some y → (last log).replicas k q ≡ Some x → IsToFollow e x → IsPrefix x.effects y.effects
run_prefix log run k q r e x y found alone active at there to = ((run_copies log run).ahead k r e y found alone active at).replica q x there to
