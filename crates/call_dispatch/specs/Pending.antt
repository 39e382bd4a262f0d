-- How the asynchronous calls of a client show themselves, and the room that they have.
use Rattle.std.specs.Prelude.{◌≤◌, vec_capacity}
use Rattle.ckpt_types.specs.Limits.{pending_max}
use Rattle.call_dispatch.specs.PendingCalls.{PendingCalls, pending_count}
use Rattle.call_dispatch.specs.declared.pending.Pending.TheInside.{Inside}

-- the calls as contracts see them
abbrev pub pending_shown : Inside → PendingCalls
pending_shown p = record { unfinished = p.unfinished.items; finished = p.finished.items }

-- no more calls are kept than a client may have, and each list has room for all of them
pub record IsSound (p : Inside) : Type 0 where
  pub few : pending_count (pending_shown p) ≤ pending_max
  pub unfinished_room : pending_max ≤ vec_capacity p.unfinished
  pub finished_room : pending_max ≤ vec_capacity p.finished
