use Rattle.std.proofs.Common.{refl, arith}
use Rattle.ckpt_types.specs.Sections.{Fits}
use Rattle.section_store.proofs.Reserved.{IsReserved-changed}
use Rattle.section_store.proofs.store.Store.copy_from.Goals as goal

pub copy_from-requires-clause-places : goal.copy_from-requires-clause-places
copy_from-requires-clause-places g c =
    let fits : Fits c.self.inside.attributes (g.S.Sections.sections c.args.other.now) = rw (← c.self.view_is) at c.requires in
    omega (arith, fits.few, c.self.invariant.places)

pub copy_from-requires-clause-fits : goal.copy_from-requires-clause-fits
copy_from-requires-clause-fits g c =
    let fits : Fits c.self.inside.attributes (g.S.Sections.sections c.args.other.now) = rw (← c.self.view_is) at c.requires in
    omega (arith, fits.within, c.self.invariant.size)

pub invariant_of-self : goal.invariant_of-self
invariant_of-self g c =
    IsReserved-changed c.self.inside _ _ refl c.copy_from.ensures.kept c.copy_from.ensures.rises (rw (← c.self.view_is) at c.requires) c.of_others-self-inside.ensures c.self.invariant
