-- The room that a call takes at its beginning and has in hand.
use Rattle.std.specs.Prelude.{[], Option, Some, None, if◌then◌else◌}
use Rattle.ckpt_types.specs.declared.attributes.CreationAttributes.{CreationAttributes}
use Rattle.ckpt_types.specs.Asks.{Ask}
use Rattle.ckpt_types.specs.Asks as asks
use Rattle.section_iter.specs.KeptIds.{KeptIds}
use Rattle.section_iter.specs.declared.room.Room.{Room}
use Rattle.snap_copy.specs.Snapshots.{Snapshot}
use Rattle.ckpt_machine.specs.Tables.{takes_copy}

-- for an iteration
abbrev pub room_for : Ask → Room → Option KeptIds
room_for (asks.Iterate iteration place chosen time) room = Some (record { ids = []; room = room })
room_for ask room = None

-- for a snapshot of a checkpoint that declares this; none of one that is gone
abbrev pub copy_room : Option CreationAttributes → Option Snapshot
copy_room None = None
copy_room (Some a) = Some (record { attributes = a; sections = []; generation = 0; count = 0 })

-- for what a call copies, if it copies anything
abbrev pub copy_room_for : Ask → Option CreationAttributes → Option Snapshot
copy_room_for ask declares = if takes_copy ask then copy_room declares else None
