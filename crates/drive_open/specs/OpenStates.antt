-- What the driver of an open keeps, as its fields have it.
use Rattle.ckpt_types.specs.declared.calls.OpenAsk.{OpenAsk}
use Rattle.cluster_record.specs.DueOpen.{OpenState}
use Rattle.drive_open.specs.declared.open_call.OpenCall.TheInside as opening
use Rattle.drive_open.specs.declared.open_call.SharedAsk.TheInside as asked

-- what an open asks of the record, as contracts see it
abbrev pub ask_of : asked.Inside → OpenAsk
ask_of a = record { name = a.name; attrs = a.attributes; client = a.client; node = a.node }

-- an open as contracts see it
abbrev pub open_state : opening.Inside → OpenState
open_state o = record { call = o.call; ask = o.ask; deadline = o.deadline; making = o.making }
