use Rattle.std.proofs.Common.{rules, ◌≡◌, slice_get, Some, ap, ◌∙◌, sym, subst, to_z, of_z, w64}
use Rattle.std.specs.Prelude.{IsOk, Ok}
use Rattle.std.proofs.lemmas.Int.{to_z-of_z}
use Rattle.ckpt_types.specs.Sections.{present}
use Rattle.ckpt_types.specs.Updates.{outcome, new_id}
use Rattle.section_store.specs.Places.{count_below}
use Rattle.section_store.specs.Planned.{planned}
use Rattle.section_store.proofs.Placed.{present-present}
use Rattle.section_store.proofs.PlannedUpdates.{IsMadeAt-overwritten, IsMadeAt-expiration_set, IsMadeAt-section_deleted, section_created-planned}
use Rattle.section_store.proofs.store.Store.apply_plan.Goals as goal

pub overwrite_at-requires-clause-there : goal.overwrite_at-requires-clause-there
overwrite_at-requires-clause-there c =
    let a = c.args.self.now.attributes in
    let sections = c.args.self.now.sections in
    let accepted = subst (λ u. IsOk (outcome a u c.args.now sections)) c.in-Overwrite.is c.requires.accepted in
    let first : slice_get (planned a c.args.update.now c.args.now sections) 0 ≡ Some c.at.result = ap (λ xs. slice_get xs 0) (sym c.requires.planned) ∙ c.at.ensures in
    let moment = to_z-of_z w64 c.args.now c.ranges.now in
    let made = IsMadeAt-overwritten a c.in-Overwrite.field-0 c.in-Overwrite.bytes _ c.args.now _ sections c.at.result c.drop_absent.new.self moment c.as_slice-in-Overwrite.ensures c.drop_absent.ensures c.law.ensures.rises c.law.ensures.fits accepted (ap (λ u. slice_get (planned a u c.args.now sections) 0) (sym c.in-Overwrite.is) ∙ first) in
    made.there

pub overwrite_at-requires-clause-rises : goal.overwrite_at-requires-clause-rises
overwrite_at-requires-clause-rises c =
    let a = c.args.self.now.attributes in
    let sections = c.args.self.now.sections in
    let accepted = subst (λ u. IsOk (outcome a u c.args.now sections)) c.in-Overwrite.is c.requires.accepted in
    let first : slice_get (planned a c.args.update.now c.args.now sections) 0 ≡ Some c.at.result = ap (λ xs. slice_get xs 0) (sym c.requires.planned) ∙ c.at.ensures in
    let moment = to_z-of_z w64 c.args.now c.ranges.now in
    let made = IsMadeAt-overwritten a c.in-Overwrite.field-0 c.in-Overwrite.bytes _ c.args.now _ sections c.at.result c.drop_absent.new.self moment c.as_slice-in-Overwrite.ensures c.drop_absent.ensures c.law.ensures.rises c.law.ensures.fits accepted (ap (λ u. slice_get (planned a u c.args.now sections) 0) (sym c.in-Overwrite.is) ∙ first) in
    made.leaves.rises

pub overwrite_at-requires-clause-fits : goal.overwrite_at-requires-clause-fits
overwrite_at-requires-clause-fits c =
    let a = c.args.self.now.attributes in
    let sections = c.args.self.now.sections in
    let accepted = subst (λ u. IsOk (outcome a u c.args.now sections)) c.in-Overwrite.is c.requires.accepted in
    let first : slice_get (planned a c.args.update.now c.args.now sections) 0 ≡ Some c.at.result = ap (λ xs. slice_get xs 0) (sym c.requires.planned) ∙ c.at.ensures in
    let moment = to_z-of_z w64 c.args.now c.ranges.now in
    let made = IsMadeAt-overwritten a c.in-Overwrite.field-0 c.in-Overwrite.bytes _ c.args.now _ sections c.at.result c.drop_absent.new.self moment c.as_slice-in-Overwrite.ensures c.drop_absent.ensures c.law.ensures.rises c.law.ensures.fits accepted (ap (λ u. slice_get (planned a u c.args.now sections) 0) (sym c.in-Overwrite.is) ∙ first) in
    made.leaves.fits

pub returns-in-Overwrite-clause-sections : goal.returns-in-Overwrite-clause-sections
returns-in-Overwrite-clause-sections c =
    let a = c.args.self.now.attributes in
    let sections = c.args.self.now.sections in
    let accepted = subst (λ u. IsOk (outcome a u c.args.now sections)) c.in-Overwrite.is c.requires.accepted in
    let first : slice_get (planned a c.args.update.now c.args.now sections) 0 ≡ Some c.at.result = ap (λ xs. slice_get xs 0) (sym c.requires.planned) ∙ c.at.ensures in
    let moment = to_z-of_z w64 c.args.now c.ranges.now in
    let made = IsMadeAt-overwritten a c.in-Overwrite.field-0 c.in-Overwrite.bytes _ c.args.now _ sections c.at.result c.drop_absent.new.self moment c.as_slice-in-Overwrite.ensures c.drop_absent.ensures c.law.ensures.rises c.law.ensures.fits accepted (ap (λ u. slice_get (planned a u c.args.now sections) 0) (sym c.in-Overwrite.is) ∙ first) in
    ap (λ u. outcome a u c.args.now sections) c.in-Overwrite.is ∙ made.leaves.is ∙ ap Ok (sym (ap (λ s. s.sections) c.overwrite_at.ensures))

pub delete_at-requires-clause-there : goal.delete_at-requires-clause-there
delete_at-requires-clause-there c =
    let a = c.args.self.now.attributes in
    let sections = c.args.self.now.sections in
    let accepted = subst (λ u. IsOk (outcome a u c.args.now sections)) c.in-Delete.is c.requires.accepted in
    let first : slice_get (planned a c.args.update.now c.args.now sections) 0 ≡ Some c.at-in-Delete.result = ap (λ xs. slice_get xs 0) (sym c.requires.planned) ∙ c.at-in-Delete.ensures in
    let moment = to_z-of_z w64 c.args.now c.ranges.now in
    let made = IsMadeAt-section_deleted a c.in-Delete.field-0 c.args.now _ sections c.at-in-Delete.result c.drop_absent.new.self moment c.drop_absent.ensures c.law.ensures.rises c.law.ensures.fits accepted (ap (λ u. slice_get (planned a u c.args.now sections) 0) (sym c.in-Delete.is) ∙ first) in
    made.there

pub delete_at-requires-clause-rises : goal.delete_at-requires-clause-rises
delete_at-requires-clause-rises c =
    let a = c.args.self.now.attributes in
    let sections = c.args.self.now.sections in
    let accepted = subst (λ u. IsOk (outcome a u c.args.now sections)) c.in-Delete.is c.requires.accepted in
    let first : slice_get (planned a c.args.update.now c.args.now sections) 0 ≡ Some c.at-in-Delete.result = ap (λ xs. slice_get xs 0) (sym c.requires.planned) ∙ c.at-in-Delete.ensures in
    let moment = to_z-of_z w64 c.args.now c.ranges.now in
    let made = IsMadeAt-section_deleted a c.in-Delete.field-0 c.args.now _ sections c.at-in-Delete.result c.drop_absent.new.self moment c.drop_absent.ensures c.law.ensures.rises c.law.ensures.fits accepted (ap (λ u. slice_get (planned a u c.args.now sections) 0) (sym c.in-Delete.is) ∙ first) in
    made.leaves.rises

pub delete_at-requires-clause-fits : goal.delete_at-requires-clause-fits
delete_at-requires-clause-fits c =
    let a = c.args.self.now.attributes in
    let sections = c.args.self.now.sections in
    let accepted = subst (λ u. IsOk (outcome a u c.args.now sections)) c.in-Delete.is c.requires.accepted in
    let first : slice_get (planned a c.args.update.now c.args.now sections) 0 ≡ Some c.at-in-Delete.result = ap (λ xs. slice_get xs 0) (sym c.requires.planned) ∙ c.at-in-Delete.ensures in
    let moment = to_z-of_z w64 c.args.now c.ranges.now in
    let made = IsMadeAt-section_deleted a c.in-Delete.field-0 c.args.now _ sections c.at-in-Delete.result c.drop_absent.new.self moment c.drop_absent.ensures c.law.ensures.rises c.law.ensures.fits accepted (ap (λ u. slice_get (planned a u c.args.now sections) 0) (sym c.in-Delete.is) ∙ first) in
    made.leaves.fits

pub returns-in-Delete-clause-sections : goal.returns-in-Delete-clause-sections
returns-in-Delete-clause-sections c =
    let a = c.args.self.now.attributes in
    let sections = c.args.self.now.sections in
    let accepted = subst (λ u. IsOk (outcome a u c.args.now sections)) c.in-Delete.is c.requires.accepted in
    let first : slice_get (planned a c.args.update.now c.args.now sections) 0 ≡ Some c.at-in-Delete.result = ap (λ xs. slice_get xs 0) (sym c.requires.planned) ∙ c.at-in-Delete.ensures in
    let moment = to_z-of_z w64 c.args.now c.ranges.now in
    let made = IsMadeAt-section_deleted a c.in-Delete.field-0 c.args.now _ sections c.at-in-Delete.result c.drop_absent.new.self moment c.drop_absent.ensures c.law.ensures.rises c.law.ensures.fits accepted (ap (λ u. slice_get (planned a u c.args.now sections) 0) (sym c.in-Delete.is) ∙ first) in
    ap (λ u. outcome a u c.args.now sections) c.in-Delete.is ∙ made.leaves.is ∙ ap Ok (sym (ap (λ s. s.sections) c.delete_at.ensures))

pub expire_at-requires-clause-there : goal.expire_at-requires-clause-there
expire_at-requires-clause-there c =
    let a = c.args.self.now.attributes in
    let sections = c.args.self.now.sections in
    let accepted = subst (λ u. IsOk (outcome a u c.args.now sections)) c.in-SetExpiration.is c.requires.accepted in
    let first : slice_get (planned a c.args.update.now c.args.now sections) 0 ≡ Some c.at-in-SetExpiration.result = ap (λ xs. slice_get xs 0) (sym c.requires.planned) ∙ c.at-in-SetExpiration.ensures in
    let moment = to_z-of_z w64 c.args.now c.ranges.now in
    let made = IsMadeAt-expiration_set a c.in-SetExpiration.field-0 c.in-SetExpiration.expiration _ c.args.now _ sections c.at-in-SetExpiration.result c.drop_absent.new.self moment (to_z-of_z w64 c.in-SetExpiration.expiration (search rules)) c.drop_absent.ensures c.law.ensures.rises c.law.ensures.fits accepted (ap (λ u. slice_get (planned a u c.args.now sections) 0) (sym c.in-SetExpiration.is) ∙ first) in
    made.there

pub expire_at-requires-clause-rises : goal.expire_at-requires-clause-rises
expire_at-requires-clause-rises c =
    let a = c.args.self.now.attributes in
    let sections = c.args.self.now.sections in
    let accepted = subst (λ u. IsOk (outcome a u c.args.now sections)) c.in-SetExpiration.is c.requires.accepted in
    let first : slice_get (planned a c.args.update.now c.args.now sections) 0 ≡ Some c.at-in-SetExpiration.result = ap (λ xs. slice_get xs 0) (sym c.requires.planned) ∙ c.at-in-SetExpiration.ensures in
    let moment = to_z-of_z w64 c.args.now c.ranges.now in
    let made = IsMadeAt-expiration_set a c.in-SetExpiration.field-0 c.in-SetExpiration.expiration _ c.args.now _ sections c.at-in-SetExpiration.result c.drop_absent.new.self moment (to_z-of_z w64 c.in-SetExpiration.expiration (search rules)) c.drop_absent.ensures c.law.ensures.rises c.law.ensures.fits accepted (ap (λ u. slice_get (planned a u c.args.now sections) 0) (sym c.in-SetExpiration.is) ∙ first) in
    made.leaves.rises

pub expire_at-requires-clause-fits : goal.expire_at-requires-clause-fits
expire_at-requires-clause-fits c =
    let a = c.args.self.now.attributes in
    let sections = c.args.self.now.sections in
    let accepted = subst (λ u. IsOk (outcome a u c.args.now sections)) c.in-SetExpiration.is c.requires.accepted in
    let first : slice_get (planned a c.args.update.now c.args.now sections) 0 ≡ Some c.at-in-SetExpiration.result = ap (λ xs. slice_get xs 0) (sym c.requires.planned) ∙ c.at-in-SetExpiration.ensures in
    let moment = to_z-of_z w64 c.args.now c.ranges.now in
    let made = IsMadeAt-expiration_set a c.in-SetExpiration.field-0 c.in-SetExpiration.expiration _ c.args.now _ sections c.at-in-SetExpiration.result c.drop_absent.new.self moment (to_z-of_z w64 c.in-SetExpiration.expiration (search rules)) c.drop_absent.ensures c.law.ensures.rises c.law.ensures.fits accepted (ap (λ u. slice_get (planned a u c.args.now sections) 0) (sym c.in-SetExpiration.is) ∙ first) in
    made.leaves.fits

pub returns-in-SetExpiration-clause-sections : goal.returns-in-SetExpiration-clause-sections
returns-in-SetExpiration-clause-sections c =
    let a = c.args.self.now.attributes in
    let sections = c.args.self.now.sections in
    let accepted = subst (λ u. IsOk (outcome a u c.args.now sections)) c.in-SetExpiration.is c.requires.accepted in
    let first : slice_get (planned a c.args.update.now c.args.now sections) 0 ≡ Some c.at-in-SetExpiration.result = ap (λ xs. slice_get xs 0) (sym c.requires.planned) ∙ c.at-in-SetExpiration.ensures in
    let moment = to_z-of_z w64 c.args.now c.ranges.now in
    let made = IsMadeAt-expiration_set a c.in-SetExpiration.field-0 c.in-SetExpiration.expiration _ c.args.now _ sections c.at-in-SetExpiration.result c.drop_absent.new.self moment (to_z-of_z w64 c.in-SetExpiration.expiration (search rules)) c.drop_absent.ensures c.law.ensures.rises c.law.ensures.fits accepted (ap (λ u. slice_get (planned a u c.args.now sections) 0) (sym c.in-SetExpiration.is) ∙ first) in
    ap (λ u. outcome a u c.args.now sections) c.in-SetExpiration.is ∙ made.leaves.is ∙ ap Ok (sym (ap (λ s. s.sections) c.expire_at.ensures))

pub create_at-requires-clause-place : goal.create_at-requires-clause-place
create_at-requires-clause-place c =
    let a = c.args.self.now.attributes in
    let sections = c.args.self.now.sections in
    let accepted = subst (λ u. IsOk (outcome a u c.args.now sections)) c.in-Create.is c.requires.accepted in
    let first : slice_get (planned a c.args.update.now c.args.now sections) 0 ≡ Some c.at-in-Create.result = ap (λ xs. slice_get xs 0) (sym c.requires.planned) ∙ c.at-in-Create.ensures in
    let moment = to_z-of_z w64 c.args.now c.ranges.now in
    let shown : c.drop_absent.new.self.sections ≡ present c.args.now sections = ap (λ s. s.sections) c.drop_absent.ensures ∙ ap (λ m. present m sections) moment in
    section_created-planned a c.in-Create.new c.in-Create.expiration c.in-Create.bytes c.args.now sections c.at-in-Create.result c.law.ensures.rises c.law.ensures.fits accepted (ap (λ u. slice_get (planned a u c.args.now sections) 0) (sym c.in-Create.is) ∙ first)
    ∙ ap (λ xs. count_below (new_id c.in-Create.new xs) xs) (sym shown)

pub create_at-requires-clause-all_present : goal.create_at-requires-clause-all_present
create_at-requires-clause-all_present c =
    let t = to_z w64 (of_z w64 c.args.now) in
    let now : c.drop_absent.new.self.sections ≡ present t c.args.self.now.sections = ap (λ s. s.sections) c.drop_absent.ensures in
    ap (present t) now ∙ present-present t c.args.self.now.sections ∙ sym now
