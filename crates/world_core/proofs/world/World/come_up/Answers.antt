use Rattle.std.proofs.Common.{rules}
use Rattle.world_core.proofs.world.World.come_up.Goals as goal

pub returns-then-is_up-clause-answer : goal.returns-then-is_up-clause-answer
returns-then-is_up-clause-answer c = search rules

pub returns-clause-answer : goal.returns-clause-answer
returns-clause-answer c = search rules
