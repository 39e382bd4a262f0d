use Rattle.std.proofs.Common.{ap, ◌≡◌, ◌+◌, ◌-◌, ◌^◌, ◌<◌, length, arith, rules, ◌∙◌, sym, subst, refl, to_z, of_z, w64}
use Rattle.std.proofs.lemmas.Int.{to_z-of_z}
use Rattle.ckpt_types.specs.declared.sections.SectionState.TheVariants.{Valid}
use Rattle.ckpt_types.specs.Sections.{Rises, Fits, memory_used, earliest_expiration}
use Rattle.section_store.specs.Places.{changed_at}
use Rattle.section_store.specs.Summary.{AreTaken, IsSummary}
use Rattle.section_store.proofs.SummaryLemmas.{AreTaken-changed_at}
use Rattle.section_store.proofs.Expiring.{earliest_expiration-changed_at}
use Rattle.section_store.proofs.Reserved.{kept_with, IsReserved-changed, few_bytes}
use Rattle.section_store.proofs.store.Store.overwrite_at.Goals as goal

pub overwrite-before-requires-clause-there : goal.overwrite-before-requires-clause-there
overwrite-before-requires-clause-there c = rw (← c.self.view_is) at c.requires.there

pub overwrite-before-requires-clause-fits : goal.overwrite-before-requires-clause-fits
overwrite-before-requires-clause-fits c =
    let kept = c.self.inside.kept.sections in
    let moment : to_z w64 (of_z w64 c.args.now) ≡ c.args.now = to_z-of_z w64 c.args.now c.ranges.now in
    let fits : Fits c.self.inside.attributes (changed_at (λ s. record s { bytes = c.args.bytes.now; state = Valid; last_update = c.args.now }) c.args.place kept) = rw (← c.self.view_is) at c.requires.fits in
    let same = ap memory_used (λ i. changed_at (λ s. record s { bytes = c.args.bytes.now; state = Valid; last_update = moment i }) c.args.place kept) in
    omega (arith, fits.within, same, c.self.invariant.size)

-- the section is overwritten
left : (c : goal.After-self-1) → changed_at (λ s. record s { bytes = c.args.bytes.now; state = Valid; last_update = c.args.now }) c.args.place c.self.inside.kept.sections ≡ c.overwrite-before.new.self.sections
left c =
    let moment : to_z w64 (of_z w64 c.args.now) ≡ c.args.now = to_z-of_z w64 c.args.now c.ranges.now in
    sym (ap (λ k. k.sections) c.overwrite-before.ensures.kept ∙ (λ i. changed_at (λ s. record s { bytes = c.args.bytes.now; state = Valid; last_update = moment i }) c.args.place c.self.inside.kept.sections))

-- it expires when it did, under the identifier that it had, and has other bytes
summary : (c : goal.After-self-1) → IsSummary (record c.self.inside.summary { used = c.self.inside.summary.used + length c.args.bytes.now - c.overwrite-before.result }) c.overwrite-before.new.self.sections
summary c =
    let was = c.self.invariant.summary in
    let kept = c.self.inside.kept.sections in
    let same = sym (ap (λ k. k.sections) c.overwrite-before.ensures.kept) in
    record {
      earliest = was.earliest ∙ sym (earliest_expiration-changed_at _ c.args.place kept (λ s. refl)) ∙ ap earliest_expiration same;
      used = omega (arith, was.used, c.overwrite-before.ensures.before);
      numbers = subst (AreTaken c.self.inside.summary.first) same (AreTaken-changed_at _ c.self.inside.summary.first c.args.place kept (λ s. refl) was.numbers);
    }

pub overflow_add-self : goal.overflow_add-self
overflow_add-self c =
    let long : length c.args.bytes.now < 2 ^ 63 = search rules in
    let few = few_bytes c.self.inside.attributes c.self.inside.kept.sections c.self.invariant.checked c.self.invariant.fits in
    let summed : c.self.inside.summary.used + length c.args.bytes.now < 2 ^ 64 = omega (arith, c.self.invariant.summary.used, few, long) in
    search (rules, summed)

pub invariant_of-self : goal.invariant_of-self
invariant_of-self c =
    let rises = subst Rises (left c) (rw (← c.self.view_is) at c.requires.rises) in
    let fits = subst (Fits c.self.inside.attributes) (left c) (rw (← c.self.view_is) at c.requires.fits) in
    IsReserved-changed c.self.inside _ _ refl (kept_with c.self.inside.kept _ _ c.overwrite-before.ensures.kept) rises fits (summary c) c.self.invariant

pub returns : goal.returns
returns c = rw (← c.self.view_is) (λ i. record { attributes = c.self.inside.attributes; sections = sym (left c) i })
