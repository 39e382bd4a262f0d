use Rattle.std.proofs.Common.{rules}
use Rattle.ckpt_types.proofs.attributes.CreationAttributes.has_malformed_sizes.Goals as goal

pub returns-else-self-gt-SECTIONS_MAX : goal.returns-else-self-gt-SECTIONS_MAX
returns-else-self-gt-SECTIONS_MAX c = search rules
