use Rattle.std.proofs.Common.{ap, ◌∙◌, sym, w64}
use Rattle.std.specs.Prelude.{Ok}
use Rattle.std.proofs.lemmas.Int.{to_z-of_z}
use Rattle.section_store.proofs.Placed.{overwritten-told, overwritten-no_place}
use Rattle.section_store.proofs.store.Store.overwrite.Goals as goal

pub unreachable-requires : goal.unreachable-requires
unreachable-requires c =
    overwritten-no_place c.self.inside.attributes c.args.id.now c.args.bytes.now c.args.now c.self.inside.kept.sections
    (sym c.find.ensures.place ∙ c.in_default.is) (rw (← c.self.view_is) at c.requires)

pub overwrite_at-requires-clause-rises : goal.overwrite_at-requires-clause-rises
overwrite_at-requires-clause-rises c =
    let leaves = overwritten-told c.self.inside.attributes c.args.id.now c.args.bytes.now c.args.now _ c.self.inside.kept.sections c.in-Some.place (to_z-of_z w64 c.args.now c.ranges.now) c.self.invariant.rises c.self.invariant.fits (sym c.find.ensures.place ∙ c.in-Some.is) (rw (← c.self.view_is) at c.requires) in
    rw (← c.self.view_is) leaves.rises

pub overwrite_at-requires-clause-fits : goal.overwrite_at-requires-clause-fits
overwrite_at-requires-clause-fits c =
    let leaves = overwritten-told c.self.inside.attributes c.args.id.now c.args.bytes.now c.args.now _ c.self.inside.kept.sections c.in-Some.place (to_z-of_z w64 c.args.now c.ranges.now) c.self.invariant.rises c.self.invariant.fits (sym c.find.ensures.place ∙ c.in-Some.is) (rw (← c.self.view_is) at c.requires) in
    rw (← c.self.view_is) leaves.fits

pub returns-clause-sections : goal.returns-clause-sections
returns-clause-sections c =
    let leaves = overwritten-told c.self.inside.attributes c.args.id.now c.args.bytes.now c.args.now _ c.self.inside.kept.sections c.in-Some.place (to_z-of_z w64 c.args.now c.ranges.now) c.self.invariant.rises c.self.invariant.fits (sym c.find.ensures.place ∙ c.in-Some.is) (rw (← c.self.view_is) at c.requires) in
    rw (← c.self.view_is) (leaves.is ∙ ap Ok (sym (ap (λ s. s.sections) (rw (← c.self.view_is) at c.overwrite_at.ensures))))
