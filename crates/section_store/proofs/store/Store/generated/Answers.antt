use Rattle.std.proofs.Common.{rules, arith}
use Rattle.ckpt_types.proofs.AttributeLaws.{IsWellFormed-from_check}
use Rattle.section_store.proofs.store.Store.generated.Goals as goal

pub free_number-requires-clause-taken : goal.free_number-requires-clause-taken
free_number-requires-clause-taken c = search rules

pub free_number-requires-clause-few : goal.free_number-requires-clause-few
free_number-requires-clause-few c =
    let declared = IsWellFormed-from_check c.self.inside.attributes c.self.invariant.checked in
    omega (arith, c.self.invariant.fits.few, declared.few_sections)
