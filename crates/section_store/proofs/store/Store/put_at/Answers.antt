use Rattle.std.proofs.Common.{◌+◌, ◌^◌, ◌<◌, ◌≤◌, ◌≡◌, rules, ◌∙◌, ap, sym, subst, refl, length, to_z, of_z, w64, arith}
use Rattle.std.specs.Prelude.{insert}
use Rattle.std.proofs.lemmas.Int.{ints, clamps, to_z-of_z}
use Rattle.std.proofs.lemmas.List.Edits.{length-insert}
use Rattle.std.proofs.lemmas.List.Sums.{sum_by-insert}
use Rattle.ckpt_types.specs.Sections.{Section, Rises, Fits, memory_used, size_of, earliest_expiration}
use Rattle.section_store.specs.StoreState.{new_section}
use Rattle.section_store.specs.Summary.{AreTaken, IsSummary}
use Rattle.section_store.proofs.Expiring.{earliest_expiration-insert}
use Rattle.section_store.proofs.Reserved.{IsReserved-changed, kept_with, few_bytes}
use Rattle.section_store.proofs.store.Store.put_at.Goals as goal

pub put_in-requires-clause-place : goal.put_in-requires-clause-place
put_in-requires-clause-place c = rw (← c.self.view_is) at c.requires.there

pub put_in-requires-clause-places : goal.put_in-requires-clause-places
put_in-requires-clause-places c =
    let kept = c.self.inside.kept.sections in
    let section = new_section c.args.made.now.id c.args.bytes.now c.args.expiration c.args.now in
    let there : c.args.place ≤ length kept = rw (← c.self.view_is) at c.requires.there in
    let fits : Fits c.self.inside.attributes (insert kept c.args.place section) = rw (← c.self.view_is) at c.requires.fits in
    omega (arith, fits.few, length-insert kept c.args.place section there, c.self.invariant.places)

pub put_in-requires-clause-fits : goal.put_in-requires-clause-fits
put_in-requires-clause-fits c =
    let kept = c.self.inside.kept.sections in
    let section = new_section c.args.made.now.id c.args.bytes.now c.args.expiration c.args.now in
    let fits : Fits c.self.inside.attributes (insert kept c.args.place section) = rw (← c.self.view_is) at c.requires.fits in
    omega (arith, fits.within, sum_by-insert size_of kept c.args.place section, c.self.invariant.size)

pub overflow_add-self : goal.overflow_add-self
overflow_add-self c =
    let long : length c.args.bytes.now < 2 ^ 63 = search rules in
    let few = few_bytes c.self.inside.attributes c.self.inside.kept.sections c.self.invariant.checked c.self.invariant.fits in
    let summed : c.self.inside.summary.used + length c.args.bytes.now < 2 ^ 64 = omega (arith, c.self.invariant.summary.used, few, long) in
    search (rules, summed)

-- the section is there
left : (c : goal.After-self-1) → insert c.self.inside.kept.sections c.args.place (new_section c.args.made.now.id c.args.bytes.now c.args.expiration c.args.now) ≡ c.put_in.new.self.sections
left c =
    let moment : to_z w64 (of_z w64 c.args.now) ≡ c.args.now = to_z-of_z w64 c.args.now c.ranges.now in
    let end : to_z w64 (of_z w64 c.args.expiration) ≡ c.args.expiration = to_z-of_z w64 c.args.expiration c.ranges.expiration in
    sym (ap (λ k. k.sections) c.put_in.ensures ∙ (λ i. insert c.self.inside.kept.sections c.args.place (new_section c.args.made.now.id c.args.bytes.now (end i) (moment i))))

-- the earliest is that of the new one and those that were there; it has its bytes
summary : (c : goal.After-self-1) → IsSummary (record { earliest = to_z w64 (of_z w64 c.min.result); used = c.self.inside.summary.used + length c.args.bytes.now; first = c.args.made.now.first }) c.put_in.new.self.sections
summary c =
    let was = c.self.invariant.summary in
    let kept = c.self.inside.kept.sections in
    let section : Section = new_section c.args.made.now.id c.args.bytes.now c.args.expiration c.args.now in
    record {
      earliest = omega (arith, ints, clamps, c.min.ensures.value, was.earliest, earliest_expiration-insert kept c.args.place section) ∙ ap earliest_expiration (left c);
      used = omega (arith, was.used, ap memory_used (left c), sum_by-insert size_of kept c.args.place section);
      numbers = subst (AreTaken c.args.made.now.first) (left c) (rw (← c.self.view_is) at c.requires.taken);
    }

pub invariant_of-self : goal.invariant_of-self
invariant_of-self c =
    let rises = subst Rises (left c) (rw (← c.self.view_is) at c.requires.rises) in
    let fits = subst (Fits c.self.inside.attributes) (left c) (rw (← c.self.view_is) at c.requires.fits) in
    IsReserved-changed c.self.inside _ _ refl (kept_with c.self.inside.kept _ _ c.put_in.ensures) rises fits (summary c) c.self.invariant

pub returns : goal.returns
returns c = rw (← c.self.view_is) (λ i. record { attributes = c.self.inside.attributes; sections = sym (left c) i })
