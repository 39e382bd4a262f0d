use Rattle.std.proofs.Common.{rules, ◌≡◌, [], ◌∷◌, Ok, sym, subst, to_z, of_z, w64}
use Rattle.std.specs.Prelude.{IsOk}
use Rattle.std.proofs.lemmas.Int.{to_z-of_z}
use Rattle.ckpt_types.specs.declared.update.Update.TheVariants as updates
use Rattle.ckpt_types.specs.Updates.{outcome}
use Rattle.replica.specs.Replicas.{CanGoOn}
use Rattle.replica.proofs.WeakWrites.{behind, next-fits, next-written, next-rest}
use Rattle.replica.proofs.replica.write_next.Goals as goal

-- the moment of the marks
moment : (c : goal.After-apply_element-arg-2-1) → to_z w64 (of_z w64 c.marked.inside.moment) ≡ c.args.marked.now.moment
moment c = search (rules, to_z-of_z)

pub apply_element-requires : goal.apply_element-requires
apply_element-requires c =
    let store = c.args.store.now in
    let element = c.in-Some.element.now in
    subst (λ t. IsOk (outcome store.attributes (updates.Write (element ∷ [])) t store.sections)) (sym (moment c)) (next-fits store.attributes c.args.marked.now element store.sections c.in-Some.ensures c.requires.fits)

-- what the element leaves
leaves : (c : goal.After-apply_element) → outcome c.args.store.now.attributes (updates.Write (c.in-Some.element.now ∷ [])) c.args.marked.now.moment c.args.store.now.sections ≡ Ok c.apply_element.new.self.sections
leaves c = subst (λ t. outcome c.args.store.now.attributes (updates.Write (c.in-Some.element.now ∷ [])) t c.args.store.now.sections ≡ Ok c.apply_element.new.self.sections) (moment c.before) c.apply_element.ensures.sections

pub returns-clause-first : goal.returns-clause-first
returns-clause-first c = next-written c.args.store.now.attributes c.args.marked.now c.in-Some.element.now c.args.store.now.sections _ c.in-Some.ensures (leaves c)

pub returns-clause-rest : goal.returns-clause-rest
returns-clause-rest c =
    subst (λ a. CanGoOn a (behind c.args.marked.now) c.apply_element.new.self.sections) (sym c.apply_element.ensures.attributes)
    (next-rest c.args.store.now.attributes c.args.marked.now c.in-Some.element.now c.args.store.now.sections _ c.in-Some.ensures c.requires.fits (leaves c))
