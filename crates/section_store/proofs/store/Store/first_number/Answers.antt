use Rattle.std.proofs.Common.{◌≡◌, ◌<ℤ◌, sym, subst, arith}
use Rattle.std.proofs.lemmas.Int.{ints, to_z-of_z}
use Rattle.ckpt_types.specs.Sections.{present, earliest_expiration}
use Rattle.section_store.specs.Summary.{AreTaken}
use Rattle.ckpt_types.proofs.Expirations.{present-before_earliest}
use Rattle.section_store.proofs.store.Store.first_number.Goals as goal

pub returns-else-expired : goal.returns-else-expired
returns-else-expired c =
    let kept = c.self.inside.kept.sections in
    let was = c.self.invariant.summary in
    let before : c.args.now <ℤ earliest_expiration kept = grind (arith, ints, to_z-of_z, c.if-expired.false, c.expired.ensures.value, c.self.invariant.summary.earliest) in
    let all : present c.args.now kept ≡ kept = present-before_earliest c.args.now kept before in
    rw (← c.self.view_is) (subst (AreTaken c.self.inside.summary.first) (sym all) was.numbers)
