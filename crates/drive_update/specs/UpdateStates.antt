-- What the driver of an update keeps, as its fields have it, and what it may ask.
use Rattle.std.specs.Prelude.{◌<◌, Bool, true, false}
use Rattle.ckpt_types.specs.Limits.{nodes_max}
use Rattle.node_msgs.specs.declared.next.Next.{Next}
use Rattle.node_msgs.specs.declared.next.Next.TheVariants as nexts
use Rattle.node_msgs.specs.declared.requests.Request.TheVariants as requests
use Rattle.cluster_record.specs.declared.calls.UpdatePhase.{UpdatePhase}
use Rattle.cluster_record.specs.declared.calls.UpdatePhase.TheVariants.{Staging, Committing}
use Rattle.cluster_record.specs.DueUpdate.{UpdateState}
use Rattle.cluster_record.specs.StepDone.{HasNoneAbove}
use Rattle.drive_update.specs.declared.update_call.UpdateCall.TheInside as updating

-- an update as contracts see it; the highest node is no part of it
abbrev pub update_state : updating.Inside → UpdateState
update_state u = record { call = u.call; ckpt = u.ckpt; owned = u.owned; moment = u.moment; phase = u.phase; count = u.count; owner = u.owner }

-- the call owns nothing above the node that it keeps as the highest
pub record HasNoneAboveTop (u : updating.Inside) : Type 0 where
  pub top : u.top < nodes_max
  pub none : HasNoneAbove u.top u.owned

-- an update stages, commits, claims what a call has left that is not live, withdraws that, or is ended by the record alone
abbrev pub IsOfUpdate : Next → Type 0
IsOfUpdate (nexts.Serve r (requests.Stage call k t)) = Unit {0}
IsOfUpdate (nexts.Serve r (requests.Commit call k)) = Unit {0}
IsOfUpdate (nexts.Serve r (requests.Claim call k owner)) = Unit {0}
IsOfUpdate (nexts.Serve r (requests.Withdraw call k)) = Unit {0}
IsOfUpdate (nexts.End end) = Unit {0}
IsOfUpdate next = ⊥

-- it has met the slot of a call that is gone, and has not come to stage its own update behind that
abbrev pub settles : UpdatePhase → Bool
settles Staging = false
settles Committing = false
settles phase = true
