use Rattle.std.proofs.Common.{rules}
use Rattle.stage_slot.proofs.slot.Slot.claim.Goals as goal

pub returns : goal.returns
returns c = search rules

pub returns-then-ne-2 : goal.returns-then-ne-2
returns-then-ne-2 c = search rules
