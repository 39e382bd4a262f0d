-- The parts of a world that its calls tell.
use Rattle.std.specs.Prelude.{Option}
use Rattle.ckpt_types.specs.declared.identities.Who.{Who}
use Rattle.cluster_record.specs.RecordState.{RecordState}
use Rattle.client_calls.specs.declared.in_hand.InHand.{InHand}
use Rattle.world_core.specs.declared.world.World.{World}
use Rattle.world_core.specs.HandsState.{hand_at}

-- its record
abbrev pub record_in : World → RecordState
record_in w = w.cluster

-- the call in hand under a name, if there is one
abbrev pub call_in_hand : World → Who → Option InHand
call_in_hand w v = hand_at w.hands v
