-- Of which generation a replica is, by the entry of its checkpoint.
use Rattle.std.proofs.Common.{◌≡◌, ℕ, Some, sym, subst, ◌∙◌}
use Rattle.std.proofs.lemmas.Option.{same_Some}
use Rattle.cluster_record.specs.declared.entries.Entry.{Entry}
use Rattle.cluster_record.specs.RecordState.{entry_of}
use Rattle.ckpt_machine.specs.Invariant.{IsOfGeneration, Invariant}
use Rattle.ckpt_machine.specs.Machine.{Machine, ReplicaState}
use Rattle.ckpt_machine.specs.Shape.{IsCompleteOn}
use Rattle.ckpt_machine.proofs.OptionLemmas.{IsSomeAnd-at}

-- THE LAW: each replica is of a generation that it may have
pub generation_there : (m : Machine) → Invariant m → (k r : ℕ) (e : Entry) (x : ReplicaState) → entry_of k m.cluster.entries ≡ Some e → m.replicas k r ≡ Some x → IsOfGeneration e r x.generation
generation_there m inv k r e x found there =
    let (f, is, at) = IsSomeAnd-at (entry_of k m.cluster.entries) (λ e. IsCompleteOn e r × IsOfGeneration e r x.generation) (inv.holds.replicas k r x there) in
    subst (λ e. IsOfGeneration e r x.generation) (same_Some f e (sym is ∙ found)) at.1
