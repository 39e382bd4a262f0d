use Rattle.std.proofs.Common.{ap, ◌∙◌, sym}
use Rattle.std.specs.Prelude.{Ok}
use Rattle.section_store.proofs.Placed.{section_deleted-remove, section_deleted-no_place}
use Rattle.section_store.proofs.store.Store.delete.Goals as goal

pub unreachable-requires : goal.unreachable-requires
unreachable-requires c =
    section_deleted-no_place c.self.inside.attributes c.args.id.now c.self.inside.kept.sections
    (sym c.find.ensures.place ∙ c.in_default.is) (rw (← c.self.view_is) at c.requires)

pub delete_at-requires-clause-rises : goal.delete_at-requires-clause-rises
delete_at-requires-clause-rises c =
    let leaves = section_deleted-remove c.self.inside.attributes c.args.id.now c.self.inside.kept.sections c.in-Some.place c.self.invariant.rises c.self.invariant.fits (sym c.find.ensures.place ∙ c.in-Some.is) (rw (← c.self.view_is) at c.requires) in
    rw (← c.self.view_is) leaves.rises

pub delete_at-requires-clause-fits : goal.delete_at-requires-clause-fits
delete_at-requires-clause-fits c =
    let leaves = section_deleted-remove c.self.inside.attributes c.args.id.now c.self.inside.kept.sections c.in-Some.place c.self.invariant.rises c.self.invariant.fits (sym c.find.ensures.place ∙ c.in-Some.is) (rw (← c.self.view_is) at c.requires) in
    rw (← c.self.view_is) leaves.fits

pub returns-clause-sections : goal.returns-clause-sections
returns-clause-sections c =
    let leaves = section_deleted-remove c.self.inside.attributes c.args.id.now c.self.inside.kept.sections c.in-Some.place c.self.invariant.rises c.self.invariant.fits (sym c.find.ensures.place ∙ c.in-Some.is) (rw (← c.self.view_is) at c.requires) in
    rw (← c.self.view_is) (leaves.is ∙ ap Ok (sym (ap (λ s. s.sections) (rw (← c.self.view_is) at c.delete_at.ensures))))
