use Rattle.std.proofs.Common.{◌≡◌, FitsSigned, w64, to_z, ap, ◌∙◌, sym, rules}
use Rattle.std.specs.Int.{int_min}
use Rattle.std.proofs.lemmas.Int.{to_z-of_z}
use Rattle.snap_copy.proofs.TakenLemmas.{earliest_expiration-heads}
use Rattle.snap_copy.proofs.heads.earliest.Goals as goal

pub loop-head-preserved : goal.loop-head-preserved
loop-head-preserved c = record {
  least = λ bytes.
      let h = c.head-item.result in
      let fits : FitsSigned w64 c.min-earliest.result = search rules in
      let fits_head : FitsSigned w64 h.expiration = search rules in
      let least : c.min-earliest.result ≡ int_min (to_z w64 c.loop-head.earliest-bits) h.expiration = simp to_z-of_z at c.min-earliest.ensures.value in
      simp to_z-of_z (least ∙ ap (λ m. int_min m h.expiration) (c.loop-head.invariant.least bytes) ∙ sym (earliest_expiration-heads bytes c.args.heads.now c.loop-head.head-index h c.loop-head-test.true c.head-item.is));
}
