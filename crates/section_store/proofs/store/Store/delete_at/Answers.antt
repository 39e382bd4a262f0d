use Rattle.std.proofs.Common.{◌≡◌, ◌∙◌, ap, ◌-◌, ◌<◌, length, sym, subst, refl, to_z, of_z, w64, arith, rules}
use Rattle.std.specs.Int.{int_min}
use Rattle.std.proofs.lemmas.Int.{to_z-of_z}
use Rattle.ckpt_types.specs.Sections.{Rises, Fits, earliest_expiration}
use Rattle.section_store.specs.KeptState.{section_in}
use Rattle.section_store.specs.Summary.{AreTaken, IsSummary}
use Rattle.section_store.proofs.KeptLemmas.{section_in-slice_get}
use Rattle.section_store.proofs.Expiring.{IsEarliestBut-remove}
use Rattle.section_store.proofs.Reserved.{IsReserved-changed, kept_with}
use Rattle.section_store.proofs.store.Store.delete_at.Goals as goal

pub earliest_without-requires : goal.earliest_without-requires
earliest_without-requires c =
    let kept = c.self.inside.kept in
    let s = section_in kept c.args.place in
    let there : c.args.place < length kept.sections = rw (← c.self.view_is) at c.requires.there in
    let earliest : to_z w64 (of_z w64 c.self.inside.summary.earliest) ≡ earliest_expiration kept.sections = search rules ∙ c.self.invariant.summary.earliest in
    let gone : to_z w64 (of_z w64 c.expiration-gone.result) ≡ s.expiration = search rules ∙ c.expiration-gone.ensures in
    let others = sym (ap (λ k. k.sections) c.take_out-before.ensures.kept) in
    let both = IsEarliestBut-remove kept.sections c.args.place s (section_in-slice_get kept c.args.place there) in
    earliest ∙ both ∙ (λ i. int_min (sym gone i) (earliest_expiration (others i)))

-- the others have the bytes that it had not, and the numbers below its key are taken
summary : (c : goal.After-self-1) → IsSummary (record { earliest = to_z w64 (of_z w64 c.earliest_without.result); used = c.self.inside.summary.used - c.take_out-before.result; first = c.first_without-first.result }) c.take_out-before.new.self.sections
summary c =
    let was = c.self.invariant.summary in
    let same = sym (ap (λ k. k.sections) c.take_out-before.ensures.kept) in
    record {
      earliest = to_z-of_z w64 c.earliest_without.result (search rules) ∙ c.earliest_without.ensures;
      used = omega (arith, was.used, c.take_out-before.ensures.before);
      numbers = subst (AreTaken c.first_without-first.result) same c.first_without-first.ensures;
    }

pub invariant_of-self : goal.invariant_of-self
invariant_of-self c =
    let same = sym (ap (λ k. k.sections) c.take_out-before.ensures.kept) in
    let rises = subst Rises same (rw (← c.self.view_is) at c.requires.rises) in
    let fits = subst (Fits c.self.inside.attributes) same (rw (← c.self.view_is) at c.requires.fits) in
    IsReserved-changed c.self.inside _ _ refl (kept_with c.self.inside.kept _ _ c.take_out-before.ensures.kept) rises fits (summary c) c.self.invariant
