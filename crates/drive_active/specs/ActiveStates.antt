-- What the driver of a call to the active replica keeps, as its fields have it.
use Rattle.cluster_record.specs.DueActive.{ActiveState}
use Rattle.drive_active.specs.declared.active_call.ActiveCall.TheInside as asking

-- such a call as contracts see it
abbrev pub active_state : asking.Inside → ActiveState
active_state a = record { call = a.call; ckpt = a.ckpt; kind = a.kind; marks = a.marks }
