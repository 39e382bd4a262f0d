use Rattle.std.proofs.Common.{ap, to_z, of_z, refl, subst, w64, arith}
use Rattle.ckpt_types.specs.Sections.{present}
use Rattle.ckpt_types.proofs.Presence.{Rises-present}
use Rattle.ckpt_types.proofs.Fitting.{Fits-present}
use Rattle.section_store.specs.Summary.{IsSummary}
use Rattle.ckpt_types.specs.Sections.{memory_used}
use Rattle.section_store.proofs.Reserved.{IsReserved-changed, few_bytes}
use Rattle.section_store.proofs.store.Store.drop_some.Goals as goal

pub of-self-inside-requires : goal.of-self-inside-requires
of-self-inside-requires c =
    let a = c.self.inside.attributes in
    let before = c.self.inside.kept.sections in
    let t = to_z w64 (of_z w64 c.args.now) in
    let few = few_bytes a (present t before) c.self.invariant.checked (Fits-present a t before c.self.invariant.fits) in
    omega (arith, few, ap memory_used (ap (λ k. k.sections) c.drop_absent.ensures))

pub invariant_of-self : goal.invariant_of-self
invariant_of-self c =
    let before = c.self.inside.kept.sections in
    let was = c.self.invariant in
    IsReserved-changed c.self.inside _ _ refl c.drop_absent.ensures (Rises-present _ before was.rises) (Fits-present c.self.inside.attributes _ before was.fits) (subst (IsSummary c.of-self-inside.result) (ap (λ k. k.sections) c.drop_absent.ensures) c.of-self-inside.ensures) was
