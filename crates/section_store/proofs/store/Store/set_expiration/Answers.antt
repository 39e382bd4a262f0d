use Rattle.std.proofs.Common.{ap, ◌∙◌, sym, w64}
use Rattle.std.specs.Prelude.{Ok}
use Rattle.std.proofs.lemmas.Int.{to_z-of_z}
use Rattle.section_store.proofs.Placed.{expiration_set-told, expiration_set-no_place}
use Rattle.section_store.proofs.store.Store.set_expiration.Goals as goal

pub unreachable-requires : goal.unreachable-requires
unreachable-requires c =
    expiration_set-no_place c.self.inside.attributes c.args.id.now c.args.expiration c.args.now c.self.inside.kept.sections
    (sym c.find.ensures.place ∙ c.in_default.is) (rw (← c.self.view_is) at c.requires)

pub expire_at-requires-clause-rises : goal.expire_at-requires-clause-rises
expire_at-requires-clause-rises c =
    let leaves = expiration_set-told c.self.inside.attributes c.args.id.now c.args.expiration _ c.args.now c.self.inside.kept.sections c.in-Some.place (to_z-of_z w64 c.args.expiration c.ranges.expiration) c.self.invariant.rises c.self.invariant.fits (sym c.find.ensures.place ∙ c.in-Some.is) (rw (← c.self.view_is) at c.requires) in
    rw (← c.self.view_is) leaves.rises

pub expire_at-requires-clause-fits : goal.expire_at-requires-clause-fits
expire_at-requires-clause-fits c =
    let leaves = expiration_set-told c.self.inside.attributes c.args.id.now c.args.expiration _ c.args.now c.self.inside.kept.sections c.in-Some.place (to_z-of_z w64 c.args.expiration c.ranges.expiration) c.self.invariant.rises c.self.invariant.fits (sym c.find.ensures.place ∙ c.in-Some.is) (rw (← c.self.view_is) at c.requires) in
    rw (← c.self.view_is) leaves.fits

pub returns-clause-sections : goal.returns-clause-sections
returns-clause-sections c =
    let leaves = expiration_set-told c.self.inside.attributes c.args.id.now c.args.expiration _ c.args.now c.self.inside.kept.sections c.in-Some.place (to_z-of_z w64 c.args.expiration c.ranges.expiration) c.self.invariant.rises c.self.invariant.fits (sym c.find.ensures.place ∙ c.in-Some.is) (rw (← c.self.view_is) at c.requires) in
    rw (← c.self.view_is) (leaves.is ∙ ap Ok (sym (ap (λ s. s.sections) (rw (← c.self.view_is) at c.expire_at.ensures))))
