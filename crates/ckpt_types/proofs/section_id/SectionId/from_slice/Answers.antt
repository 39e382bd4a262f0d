use Rattle.std.proofs.lemmas.Grind.{common_steps}
use Rattle.std.proofs.Common.{arith}
use Rattle.ckpt_types.proofs.Padding.{IsPadded-written_front}
use Rattle.ckpt_types.proofs.section_id.SectionId.from_slice.Goals as goal

pub invariant_of-result : goal.invariant_of-result
invariant_of-result c = IsPadded-written_front _ _ (omega arith) c.fill_front.ensures

pub returns : goal.returns
returns c = grind (arith, common_steps)
