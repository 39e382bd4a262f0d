use Rattle.std.proofs.Common.{ap, ◌≡◌, Some, ◌+◌, ◌^◌, ◌<◌, arith, rules, ◌∙◌, sym, subst, refl, to_z, of_z, w64}
use Rattle.std.proofs.lemmas.Int.{to_z-of_z}
use Rattle.ckpt_types.specs.Sections.{place_of, memory_used, earliest_expiration}
use Rattle.ckpt_types.specs.Updates.{written, element_written}
use Rattle.ckpt_types.proofs.Presence.{place_of-lt}
use Rattle.section_store.specs.Places.{changed_at}
use Rattle.section_store.specs.Summary.{AreTaken, IsSummary}
use Rattle.section_store.proofs.SummaryLemmas.{AreTaken-changed_at}
use Rattle.section_store.proofs.Placed.{Leaves, element_written-changed_at}
use Rattle.section_store.proofs.Expiring.{earliest_expiration-changed_at}
use Rattle.section_store.proofs.Reserved.{kept_with, IsReserved-changed, few_bytes}
use Rattle.section_store.proofs.store.Store.write_at.Goals as goal

pub write_into-grown-requires-clause-there : goal.write_into-grown-requires-clause-there
write_into-grown-requires-clause-there c = place_of-lt c.args.element.now.id c.self.inside.kept.sections c.args.place (rw (← c.self.view_is) at c.requires.place)

pub write_into-grown-requires-clause-fits : goal.write_into-grown-requires-clause-fits
write_into-grown-requires-clause-fits c =
    let e = c.args.element.now in
    let kept = c.self.inside.kept.sections in
    let place : place_of e.id kept ≡ Some c.args.place = rw (← c.self.view_is) at c.requires.place in
    let moment : to_z w64 (of_z w64 c.args.now) ≡ c.args.now = to_z-of_z w64 c.args.now c.ranges.now in
    let done = element_written-changed_at c.self.inside.attributes c.args.now e kept c.args.place c.self.invariant.rises c.self.invariant.fits place (rw (← c.self.view_is) at c.requires.accepted) in
    let same = ap memory_used (λ i. changed_at (λ s. record s { bytes = written s.bytes e.offset (c.as_slice.ensures i); last_update = moment i }) c.args.place kept) in
    omega (arith, done.fits.within, same, c.self.invariant.size)

-- the element is written
left : (c : goal.After-write_into-grown) → Leaves c.self.inside.attributes (element_written c.self.inside.attributes c.args.now 0 c.args.element.now c.self.inside.kept.sections) c.write_into-grown.new.self.sections
left c =
    let e = c.args.element.now in
    let kept = c.self.inside.kept.sections in
    let place : place_of e.id kept ≡ Some c.args.place = rw (← c.self.view_is) at c.requires.place in
    let moment : to_z w64 (of_z w64 c.args.now) ≡ c.args.now = to_z-of_z w64 c.args.now c.ranges.now in
    let written_now : c.write_into-grown.new.self.sections ≡ changed_at (λ s. record s { bytes = written s.bytes e.offset e.bytes; last_update = c.args.now }) c.args.place kept =
    (ap (λ k. k.sections) c.write_into-grown.ensures.kept) ∙ (λ i. changed_at (λ s. record s { bytes = written s.bytes e.offset (c.as_slice.ensures i); last_update = moment i }) c.args.place kept) in
    subst (Leaves c.self.inside.attributes (element_written c.self.inside.attributes c.args.now 0 e kept)) (sym written_now)
    (element_written-changed_at c.self.inside.attributes c.args.now e kept c.args.place c.self.invariant.rises c.self.invariant.fits place (rw (← c.self.view_is) at c.requires.accepted))

-- it expires when it did, under the identifier that it had, and has grown
summary : (c : goal.After-write_into-grown) → IsSummary (record c.self.inside.summary { used = c.self.inside.summary.used + c.write_into-grown.result }) c.write_into-grown.new.self.sections
summary c =
    let was = c.self.invariant.summary in
    let kept = c.self.inside.kept.sections in
    let same = sym (ap (λ k. k.sections) c.write_into-grown.ensures.kept) in
    record {
      earliest = was.earliest ∙ sym (earliest_expiration-changed_at _ c.args.place kept (λ s. refl)) ∙ ap earliest_expiration same;
      used = omega (arith, was.used, c.write_into-grown.ensures.grown);
      numbers = subst (AreTaken c.self.inside.summary.first) same (AreTaken-changed_at _ c.self.inside.summary.first c.args.place kept (λ s. refl) was.numbers);
    }

pub overflow_add-self : goal.overflow_add-self
overflow_add-self c =
    let few = few_bytes c.self.inside.attributes c.write_into-grown.new.self.sections c.self.invariant.checked (left c).fits in
    let summed : c.self.inside.summary.used + c.write_into-grown.result < 2 ^ 64 = omega (arith, c.self.invariant.summary.used, c.write_into-grown.ensures.grown, few) in
    search (rules, summed)

pub invariant_of-self : goal.invariant_of-self
invariant_of-self c =
    IsReserved-changed c.self.inside _ _ refl (kept_with c.self.inside.kept _ _ c.write_into-grown.ensures.kept) (left c.before).rises (left c.before).fits (summary c.before) c.self.invariant

pub returns-clause-sections : goal.returns-clause-sections
returns-clause-sections c = rw (← c.self.view_is) (left c.before).is
