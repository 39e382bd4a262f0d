-- A checkpoint that is made goes on made behind the failure of a node.
use Rattle.std.proofs.Common.{◌≡◌, ℕ, ◌+◌, Bool, true, false, ◌==◌, ap, ◌∙◌, refl, arith}
use Rattle.std.specs.Prelude.{slice_index}
use Rattle.cluster_record.specs.declared.entries.Entry.{Entry}
use Rattle.cluster_record.specs.RecordState.{is_active}
use Rattle.ckpt_machine.proofs.FailedEntries.{IsFailedEntry, failed_rises}
use Rattle.ckpt_machine.proofs.NodeGone.{complete_still}
use Rattle.ckpt_machine.proofs.StaysMade.{GoesOnMade, RemainsBut}

-- what a failure leaves of an entry goes on made: its active stays, or its generation rises
pub failed_goes : (counts : ℕ → ℕ) (goes : ℕ → Bool) (r : ℕ) (e f : Entry) → IsFailedEntry counts goes r e f → GoesOnMade e f
failed_goes counts goes r e f left = record {
  made = λ made. record {
    made = left.making ∙ made;
    generation = failed_rises counts goes r e f left;
    active = λ same. elim (is_active e.active r) as (λ b. is_active e.active r ≡ b → f.active ≡ e.active) [
      | true ↦ λ gone. absurd (let up : f.generation ≡ e.generation + 1 = (left.gone gone).1 in let stays : f.generation ≡ e.generation = same in omega (arith, up, stays))
      | false ↦ λ stays. (left.led stays).0
    ] refl;
  };
  attributes = left.attributes;
  since = left.since;
}

-- it is complete on the other nodes on which it was
pub failed_remains : (counts : ℕ → ℕ) (goes : ℕ → Bool) (r : ℕ) (e f : Entry) → IsFailedEntry counts goes r e f → RemainsBut (λ q. (q == r) ≡ true) e f
failed_remains counts goes r e f left = record {
  made = λ made. left.making ∙ made;
  attributes = left.attributes;
  complete = λ q stays there. ap (λ cs. slice_index cs q == 0) left.complete ∙ complete_still e.complete r q (other (q == r) stays) there;
}
  where
    other : (b : Bool) → (b ≡ true → ⊥) → b ≡ false
    other true stays = absurd (stays refl)
    other false stays = refl
