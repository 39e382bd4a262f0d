use Rattle.std.proofs.Common.{ap, ◌≡◌, ◌∙◌, sym, subst, refl}
use Rattle.ckpt_types.specs.Sections.{Rises, Fits, memory_used, earliest_expiration}
use Rattle.section_store.specs.StoreState.{with_corrupted}
use Rattle.section_store.specs.Summary.{AreTaken, IsSummary}
use Rattle.section_store.proofs.SummaryLemmas.{AreTaken-changed_at, memory_used-changed_at-same}
use Rattle.section_store.proofs.Placed.{with_corrupted-changed_at, with_corrupted-no_place}
use Rattle.section_store.proofs.Expiring.{earliest_expiration-changed_at}
use Rattle.section_store.proofs.Reserved.{kept_with, IsReserved-changed}
use Rattle.section_store.proofs.store.Store.corrupt.Goals as goal

-- the section is corrupted
left : (c : goal.After-corrupt) → (c.corrupt.new.self.sections ≡ with_corrupted c.args.id.now c.self.inside.kept.sections) × Rises c.corrupt.new.self.sections × Fits c.self.inside.attributes c.corrupt.new.self.sections
left c =
    let kept = c.self.inside.kept.sections in
    let place = (sym c.find.ensures.place ∙ c.in-Some.is) in
    let (is, rises, fits) = with_corrupted-changed_at c.self.inside.attributes c.args.id.now kept c.in-Some.place c.self.invariant.rises c.self.invariant.fits place in
    let same : c.corrupt.new.self.sections ≡ with_corrupted c.args.id.now kept = (ap (λ k. k.sections) c.corrupt.ensures) ∙ sym is in
    (same, subst Rises (sym same) rises, subst (Fits c.self.inside.attributes) (sym same) fits)

-- it expires when it did, and has the identifier and the bytes that it had
summary : (c : goal.After-corrupt) → IsSummary c.self.inside.summary c.corrupt.new.self.sections
summary c =
    let was = c.self.invariant.summary in
    let kept = c.self.inside.kept.sections in
    let same = sym (ap (λ k. k.sections) c.corrupt.ensures) in
    record {
      earliest = was.earliest ∙ sym (earliest_expiration-changed_at _ c.in-Some.place kept (λ s. refl)) ∙ ap earliest_expiration same;
      used = was.used ∙ sym (ap memory_used (ap (λ k. k.sections) c.corrupt.ensures) ∙ memory_used-changed_at-same _ c.in-Some.place kept (λ s. refl));
      numbers = subst (AreTaken c.self.inside.summary.first) same (AreTaken-changed_at _ c.self.inside.summary.first c.in-Some.place kept (λ s. refl) was.numbers);
    }

pub invariant_of-self : goal.invariant_of-self
invariant_of-self c =
    IsReserved-changed c.self.inside _ _ refl (kept_with c.self.inside.kept _ _ c.corrupt.ensures) (left c).1 (left c).2 (summary c) c.self.invariant

pub returns-in-Some : goal.returns-in-Some
returns-in-Some c = rw (← c.self.view_is) (λ i. record { attributes = c.self.inside.attributes; sections = (left c).0 i })

pub returns-in_default : goal.returns-in_default
returns-in_default c =
    let kept = c.self.inside.kept.sections in
    let nowhere = (sym c.find.ensures.place ∙ c.in_default.is) in
    let same : with_corrupted c.args.id.now kept ≡ kept = with_corrupted-no_place c.args.id.now kept nowhere in
    rw (← c.self.view_is) (λ i. record { attributes = c.self.inside.attributes; sections = sym same i })
