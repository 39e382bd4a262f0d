use Rattle.std.proofs.Common.{ap, ◌≡◌, ◌≤◌, ◌∙◌, [], ◌∷◌, length, sym, subst, refl, to_z, of_z, w64, arith}
use Rattle.std.proofs.lemmas.Int.{to_z-of_z}
use Rattle.std.specs.Prelude.{insert}
use Rattle.ckpt_types.specs.declared.sections.SectionState.TheVariants.{Valid}
use Rattle.ckpt_types.specs.Sections.{Rises, Fits, memory_used, earliest_expiration, default_section}
use Rattle.ckpt_types.proofs.Fitting.{Fits-default_section}
use Rattle.ckpt_types.specs.Limits.{end_of_time}
use Rattle.section_store.specs.Summary.{AreTaken}
use Rattle.section_store.proofs.SummaryLemmas.{AreTaken-insert}
use Rattle.section_store.proofs.Reserved.{IsReserved-changed, kept_with}
use Rattle.section_store.proofs.store.Store.add_default.Goals as goal

-- the default section is there alone
left : (c : goal.After-put_in) → c.put_in.new.self.sections ≡ default_section c.args.made ∷ []
left c =
    let moment : to_z w64 (of_z w64 c.args.made) ≡ c.args.made = to_z-of_z w64 c.args.made c.ranges.made in
    let none : c.self.inside.kept.sections ≡ [] = rw (← c.self.view_is) at c.requires.none in
    (ap (λ k. k.sections) c.put_in.ensures) ∙ (λ i. insert (none i) 0 (record { id = c.default.ensures i; bytes = []; expiration = end_of_time; state = Valid; last_update = moment i }))

pub invariant_of-self : goal.invariant_of-self
invariant_of-self c =
    let attributes = c.self.inside.attributes in
    let one : attributes.max_sections ≡ 1 = rw (← c.self.view_is) at c.requires.one in
    let some : 1 ≤ attributes.max_sections = omega arith in
    let none : c.self.inside.kept.sections ≡ [] = rw (← c.self.view_is) at c.requires.none in
    let was = c.self.invariant.summary in
    IsReserved-changed c.self.inside _ _ refl (kept_with c.self.inside.kept _ _ c.put_in.ensures) (subst Rises (sym (left c)) (tt, tt)) (subst (Fits attributes) (sym (left c)) (Fits-default_section attributes c.args.made some)) (record {
      earliest = was.earliest ∙ ap earliest_expiration none ∙ sym (ap earliest_expiration (left c));
      used = was.used ∙ ap memory_used none ∙ sym (ap memory_used (left c));
      numbers = subst (AreTaken c.self.inside.summary.first) (sym (ap (λ k. k.sections) c.put_in.ensures)) (AreTaken-insert c.self.inside.summary.first 0 _ c.self.inside.kept.sections was.numbers);
    }) c.self.invariant

pub put_in-requires-clause-place : goal.put_in-requires-clause-place
put_in-requires-clause-place c = omega arith

pub put_in-requires-clause-places : goal.put_in-requires-clause-places
put_in-requires-clause-places c =
    let one : c.self.inside.attributes.max_sections ≡ 1 = rw (← c.self.view_is) at c.requires.one in
    let none : c.self.inside.kept.sections ≡ [] = rw (← c.self.view_is) at c.requires.none in
    omega (arith, one, ap length none, c.self.invariant.places)

pub put_in-requires-clause-fits : goal.put_in-requires-clause-fits
put_in-requires-clause-fits c = omega (arith, c.self.invariant.fits.within, c.self.invariant.size)

pub returns : goal.returns
returns c = (λ i. record { attributes = (c.self.view_is i).attributes; sections = left c i })
