use Rattle.std.proofs.Common.{rules}
use Rattle.ckpt_types.proofs.sections.SectionRef.is_present.Goals as goal

pub returns : goal.returns
returns c = search rules
