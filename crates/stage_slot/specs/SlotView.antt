-- How a slot shows itself.
use Rattle.std.specs.Prelude.{Option}
use Rattle.stage_slot.specs.Slots.{Slot}
use Rattle.stage_slot.specs.declared.slot.Slot.TheInside as slot
use Rattle.stage_slot.specs.declared.slot.Staged.TheInside as staged

-- a staged update as contracts see it
abbrev pub staged_shown : staged.Inside → Slot
staged_shown s = record { owner = s.owner; update = s.update; moment = s.moment; count = s.count }

-- a slot as contracts see it: what is staged, if anything is
abbrev pub slot_shown : slot.Inside → Option Slot
slot_shown s = s.staged
