use Rattle.std.proofs.Common.{rules}
use Rattle.stage_slot.proofs.slot.Slot.owner.Goals as goal

pub returns-in-Some : goal.returns-in-Some
returns-in-Some c = search rules
