use Rattle.std.proofs.Common.{rules}
use Rattle.world_core.proofs.showing.add_section.Goals as goal

pub returns : goal.returns
returns c = search rules
