use Rattle.std.proofs.Common.{◌<ℤ◌, arith}
use Rattle.std.proofs.lemmas.Int.{ints, to_z-of_z}
use Rattle.ckpt_types.specs.Sections.{earliest_expiration}
use Rattle.section_store.proofs.PlanLemmas.{place_among_present-all}
use Rattle.section_store.proofs.store.Store.place_among_present.Goals as goal

pub returns-else-expired : goal.returns-else-expired
returns-else-expired c =
    let before : c.args.now <ℤ earliest_expiration c.args.self.now.sections = grind (arith, ints, to_z-of_z, c.if-expired.false, c.expired.ensures.value, c.earliest.ensures) in
    place_among_present-all c.args.now c.args.self.now.sections c.args.place before c.requires
