use Rattle.std.proofs.Common.{arith}
use Rattle.std.proofs.lemmas.Int.{ints, clamps}
use Rattle.ckpt_types.proofs.Expirations.{earliest_expiration-next}
use Rattle.ckpt_types.proofs.FirstSections.{memory_used-next}
use Rattle.section_store.specs.KeptState.{section_in}
use Rattle.section_store.proofs.KeptLemmas.{section_in-slice_get}
use Rattle.section_store.proofs.summary.Summary.of.Goals as goal

pub loop-place-preserved : goal.loop-place-preserved
loop-place-preserved c =
    let sections = c.args.kept.now.sections in
    let i = c.loop-place.place in
    let s = section_in c.args.kept.now i in
    let at = section_in-slice_get c.args.kept.now i (omega arith) in
    record {
      earliest = omega (arith, ints, clamps, earliest_expiration-next sections i s at, c.min-earliest.ensures.value, c.expiration.ensures, c.loop-place.invariant.earliest);
      used = omega (arith, c.loop-place.invariant.used, c.size-used.ensures, memory_used-next sections i s at);
    }
