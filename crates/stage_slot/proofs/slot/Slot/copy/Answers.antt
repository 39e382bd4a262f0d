use Rattle.std.proofs.Common.{rules}
use Rattle.stage_slot.proofs.slot.Slot.copy.Goals as goal

pub returns-in_ok-copy-in-Some : goal.returns-in_ok-copy-in-Some
returns-in_ok-copy-in-Some c = search rules
