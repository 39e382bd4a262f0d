-- The copying of a node, in hand.
use Rattle.std.specs.Prelude.{◌≡◌, Option, None}
use Rattle.ckpt_types.specs.declared.identities.CallId.{CallId}
use Rattle.ckpt_types.specs.declared.operation.Op.TheVariants as ops
use Rattle.node_msgs.specs.declared.replies.Reply.{Reply}
use Rattle.node_msgs.specs.declared.replies.Reply.TheVariants as replies
use Rattle.cluster_record.specs.DueCopy.{CopyState, copy_begun}
use Rattle.cluster_record.specs.DueUpdate.{update_begun}
use Rattle.snap_copy.specs.Snapshots.{Snapshot}
use Rattle.ckpt_machine.specs.Drivers as drivers
use Rattle.client_calls.specs.declared.in_hand.InHand.{InHand}

-- the call in hand is a copying
pub record IsCopyHand (h : InHand) : Type 0 where
  pub op : h.op ≡ ops.Copy
  pub driver : CopyState
  pub driven : h.driver ≡ drivers.Copy driver
  pub iteration : h.iteration ≡ None
  pub made : h.made ≡ None

-- as it begins: it is at no checkpoint, and has room for no snapshot
abbrev pub copy_hand : CallId → InHand
copy_hand call = record { call = call; op = ops.Copy; driver = drivers.Copy (copy_begun call (update_begun call 0)); iteration = None; snapshot = None; made = None }

-- behind a reservation, for which this room was taken: where it was done, it has that for a snapshot, into which nothing is pulled
abbrev pub with_copy_room : Reply → Option Snapshot → InHand → InHand
with_copy_room (replies.Done answer) room h = record h { snapshot = room }
with_copy_room reply room h = h
