-- The incarnations of nodes go on: none that has been comes back.
use Rattle.std.proofs.Common.{◌≡◌, ℕ, ◌≤◌, arith, List, true, ap, sym, subst, ◌∙◌}
use Rattle.std.specs.Prelude.{slice_index}
use Rattle.cluster_record.specs.RecordState.{RecordState}
use Rattle.cluster_record.specs.StepDone.{has}

-- a node that is up in an incarnation up to the last that it had was up in it, and its last is no earlier one
pub record IncarnationsGoOn (R Q : RecordState) : Type 0 where
  pub was_up : (r own : ℕ) → own ≤ slice_index R.last_incarnations r → has (slice_index Q.up r) own ≡ true → has (slice_index R.up r) own ≡ true
  pub last : (r : ℕ) → slice_index R.last_incarnations r ≤ slice_index Q.last_incarnations r

-- so it is where they stay
pub incarnations_stay : (R Q : RecordState) → Q.up ≡ R.up → Q.last_incarnations ≡ R.last_incarnations → IncarnationsGoOn R Q
incarnations_stay R Q up last = record {
  was_up = λ r own within there. ap (λ (nodes : List ℕ). has (slice_index nodes r) own) (sym up) ∙ there;
  last = λ r. subst (λ (nodes : List ℕ). slice_index R.last_incarnations r ≤ slice_index nodes r) (sym last) (omega arith);
}
