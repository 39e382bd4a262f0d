use Rattle.std.proofs.Common.{◌≡◌, ◌≤◌, ◌<◌, ◌^◌, ℕ, ℤ, List, length, ap, sym, arith, rules}
use Rattle.ckpt_types.specs.Sections.{Section, present}
use Rattle.ckpt_types.proofs.AttributeLaws.{IsWellFormed-from_check}
use Rattle.ckpt_types.proofs.Presence.{length-present-le}
use Rattle.section_store.proofs.store.Store.descriptor.Goals as goal

-- there are no more sections present than there are, at whatever moment
few_present : (count : ℕ) (t : ℤ) (told sections : List Section) → count ≡ length (present t told) → told ≡ sections → count ≤ length sections
few_present count t told sections counted same = omega (arith, counted, length-present-le t told, ap length same)

pub overflow_cast-result : goal.overflow_cast-result
overflow_cast-result c =
    let declared = IsWellFormed-from_check c.self.inside.attributes c.self.invariant.checked in
    let few = few_present _ _ _ c.self.inside.kept.sections c.totals-totals.ensures.count (ap (λ s. s.sections) (sym c.self.view_is)) in
    let counted : c.totals-totals.result.count < 2 ^ 32 = omega (arith, c.self.invariant.fits.few, declared.few_sections, few) in
    search (rules, counted)

pub returns : goal.returns
returns c = search rules
