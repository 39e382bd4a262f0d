use Rattle.std.proofs.Common.{◌≡◌, ◌<ℤ◌, sym, arith}
use Rattle.std.proofs.lemmas.Int.{ints, to_z-of_z}
use Rattle.ckpt_types.specs.Sections.{present, earliest_expiration}
use Rattle.ckpt_types.proofs.Expirations.{present-before_earliest}
use Rattle.section_store.proofs.store.Store.drop_absent.Goals as goal

pub returns-else-expired : goal.returns-else-expired
returns-else-expired c =
    let kept = c.self.inside.kept.sections in
    let before : c.args.now <ℤ earliest_expiration kept = grind (arith, ints, to_z-of_z, c.if-expired.false, c.expired.ensures.value, c.self.invariant.summary.earliest) in
    let all : present c.args.now kept ≡ kept = present-before_earliest c.args.now kept before in
    rw (← c.self.view_is) (λ i. record { attributes = c.self.inside.attributes; sections = sym all i })
