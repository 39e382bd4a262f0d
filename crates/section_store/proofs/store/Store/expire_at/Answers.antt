use Rattle.std.proofs.Common.{ap, ◌≡◌, ◌<◌, length, rules, arith, ◌∙◌, sym, subst, refl, to_z, of_z, w64}
use Rattle.std.proofs.lemmas.Int.{ints, clamps, to_z-of_z}
use Rattle.std.specs.Int.{int_min}
use Rattle.ckpt_types.specs.Sections.{Rises, Fits, memory_used, earliest_expiration}
use Rattle.section_store.specs.KeptState.{section_in}
use Rattle.section_store.specs.Places.{changed_at}
use Rattle.section_store.specs.Summary.{AreTaken, IsSummary}
use Rattle.section_store.proofs.KeptLemmas.{section_in-slice_get}
use Rattle.section_store.proofs.SummaryLemmas.{AreTaken-changed_at, memory_used-changed_at-same}
use Rattle.section_store.proofs.Expiring.{IsEarliestBut-changed_at}
use Rattle.section_store.proofs.Reserved.{kept_with, IsReserved-changed}
use Rattle.section_store.proofs.store.Store.expire_at.Goals as goal

pub earliest_without-self-inside-requires : goal.earliest_without-self-inside-requires
earliest_without-self-inside-requires c =
    let kept = c.self.inside.kept in
    let s = section_in kept c.args.place in
    let t = to_z w64 (of_z w64 c.args.expiration) in
    let there : c.args.place < length kept.sections = rw (← c.self.view_is) at c.requires.there in
    let earliest : to_z w64 (of_z w64 c.min-earliest.result) ≡ int_min (earliest_expiration kept.sections) t = omega (arith, ints, clamps, c.min-earliest.ensures.value, c.self.invariant.summary.earliest) in
    let gone : to_z w64 (of_z w64 c.expiration-gone.result) ≡ s.expiration = search rules ∙ c.expiration-gone.ensures in
    let changed = sym (ap (λ k. k.sections) c.expire.ensures) in
    let all = IsEarliestBut-changed_at t kept.sections c.args.place s (section_in-slice_get kept c.args.place there) in
    earliest ∙ all ∙ (λ i. int_min (sym gone i) (earliest_expiration (changed i)))

-- the section has the other expiration
left : (c : goal.After-self-1) → changed_at (λ s. record s { expiration = c.args.expiration }) c.args.place c.self.inside.kept.sections ≡ c.expire.new.self.sections
left c =
    let moment : to_z w64 (of_z w64 c.args.expiration) ≡ c.args.expiration = to_z-of_z w64 c.args.expiration c.ranges.expiration in
    sym (ap (λ k. k.sections) c.expire.ensures ∙ (λ i. changed_at (λ s. record s { expiration = moment i }) c.args.place c.self.inside.kept.sections))

-- it has the identifier and the bytes that it had
summary : (c : goal.After-self-1) → IsSummary (record c.self.inside.summary { earliest = to_z w64 (of_z w64 c.earliest_without-self-inside.result) }) c.expire.new.self.sections
summary c =
    let was = c.self.invariant.summary in
    let same = sym (ap (λ k. k.sections) c.expire.ensures) in
    let kept = c.self.inside.kept.sections in
    record {
      earliest = to_z-of_z w64 c.earliest_without-self-inside.result (search rules) ∙ c.earliest_without-self-inside.ensures;
      used = was.used ∙ sym (ap memory_used (ap (λ k. k.sections) c.expire.ensures) ∙ memory_used-changed_at-same _ c.args.place kept (λ s. refl));
      numbers = subst (AreTaken c.self.inside.summary.first) same (AreTaken-changed_at _ c.self.inside.summary.first c.args.place kept (λ s. refl) was.numbers);
    }

pub invariant_of-self : goal.invariant_of-self
invariant_of-self c =
    let rises = subst Rises (left c) (rw (← c.self.view_is) at c.requires.rises) in
    let fits = subst (Fits c.self.inside.attributes) (left c) (rw (← c.self.view_is) at c.requires.fits) in
    IsReserved-changed c.self.inside _ _ refl (kept_with c.self.inside.kept _ _ c.expire.ensures) rises fits (summary c) c.self.invariant

pub returns : goal.returns
returns c = rw (← c.self.view_is) (λ i. record { attributes = c.self.inside.attributes; sections = sym (left c) i })
