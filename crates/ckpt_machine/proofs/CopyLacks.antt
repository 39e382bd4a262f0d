-- Which checkpoint a copying comes to next: the first that its node lacks.
use Rattle.std.proofs.Common.{◌≡◌, ℕ, Option, Some, None, true, refl, sym, ap, ◌∙◌}
use Rattle.std.specs.Prelude.{find}
use Rattle.std.proofs.lemmas.Option.{same_Some}
use Rattle.cluster_record.specs.declared.entries.Entry.{Entry}
use Rattle.cluster_record.specs.DueCopy.{lacks_replica, next_to_copy}
use Rattle.cluster_record.specs.LookUps.{identity_in}
use Rattle.cluster_record.specs.RecordState.{RecordState, entry_of}
use Rattle.cluster_record.proofs.IdentityLaws.{entry_of-find}
use Rattle.ckpt_machine.specs.Invariant.{InvariantIn}
use Rattle.ckpt_machine.specs.Machine.{Machine}
use Rattle.ckpt_machine.specs.Shape.{Shape}
use Rattle.ckpt_machine.proofs.OwnMaking.{found_passes}

-- the first that its node lacks is there, and it lacks it
pub record LacksNext (R : RecordState) (r k : ℕ) : Type 0 where
  pub entry : Entry
  pub found : entry_of k R.entries ≡ Some entry
  pub identity : entry.identity ≡ k
  pub lacks : lacks_replica r entry ≡ true

pub lacks_next : (m : Machine) (shapes : ℕ → Shape) → InvariantIn shapes m → (r k : ℕ) → next_to_copy r m.cluster.entries ≡ Some k → LacksNext m.cluster r k
lacks_next m shapes inv r k next = by_first (find (lacks_replica r) m.cluster.entries) refl next
  where
    by_first : (o : Option Entry) → find (lacks_replica r) m.cluster.entries ≡ o → identity_in o ≡ Some k → LacksNext m.cluster r k
    by_first None none is = absurd (cc is)
    by_first (Some e) first is =
        let identity : e.identity ≡ k = same_Some e.identity k is in
        record {
          entry = e;
          found = ap (λ j. entry_of j m.cluster.entries) (sym identity) ∙ entry_of-find (lacks_replica r) m.cluster.entries e inv.rises first;
          identity = identity;
          lacks = found_passes (lacks_replica r) m.cluster.entries e first;
        }
