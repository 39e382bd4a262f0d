use Rattle.std.proofs.Common.{w64, ◌∙◌, arith}
use Rattle.std.proofs.lemmas.Int.{ints, clamps, to_z-of_z}
use Rattle.ckpt_types.proofs.Expirations.{earliest_expiration-next}
use Rattle.section_store.specs.KeptState.{section_in}
use Rattle.section_store.proofs.KeptLemmas.{section_in-slice_get}
use Rattle.section_store.proofs.Expiring.{IsEarliestBut-behind, IsEarliestBut-never}
use Rattle.section_store.proofs.summary.earliest_without.Goals as goal
use Rattle.section_store.proofs.summary.earliest_without.Goals.{then-earliest-gone-via-then-earliest-gone, then-earliest-gone-via-else-earliest-gone+then-gone-eq-NEVER}

pub returns-then-earliest-gone : goal.returns-then-earliest-gone
returns-then-earliest-gone c = to_z-of_z w64 c.args.earliest c.ranges.earliest ∙ elim c.then-earliest-gone.branch [
  | then-earliest-gone-via-then-earliest-gone w ↦ IsEarliestBut-behind c.args.gone c.args.earliest c.args.kept.now.sections (omega (arith, ints, w.if-earliest-gone.true)) c.requires
  | then-earliest-gone-via-else-earliest-gone+then-gone-eq-NEVER w ↦ IsEarliestBut-never c.args.gone c.args.earliest c.args.kept.now.sections (omega (arith, ints, w.if-gone-eq-NEVER.true)) c.requires
]

pub loop-place-preserved : goal.loop-place-preserved
loop-place-preserved c =
    let kept = c.args.kept.now in
    let i = c.loop-place.place in
    let next = earliest_expiration-next kept.sections i (section_in kept i) (section_in-slice_get kept i (omega arith)) in
    record { least = omega (arith, ints, clamps, next, c.min-least.ensures.value, c.expiration.ensures, c.loop-place.invariant.least) }
