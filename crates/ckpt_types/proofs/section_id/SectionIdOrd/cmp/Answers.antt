use Rattle.std.proofs.Common.{rules}
use Rattle.ckpt_types.proofs.section_id.SectionIdOrd.cmp.Goals as goal

pub returns : goal.returns
returns c = search rules
