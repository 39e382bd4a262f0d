-- The parts of a new world make it new.
use Rattle.std.proofs.Common.{◌≡◌, ℕ, List, [], refl, ap, ◌∙◌}
use Rattle.std.specs.Prelude.{Option, None, replicate, slice_get}
use Rattle.call_dispatch.specs.PendingCalls.{no_pending}
use Rattle.ckpt_types.specs.declared.identities.ActorName.{ActorName}
use Rattle.ckpt_types.specs.declared.identities.ActorName.TheVariants.{Client, Node}
use Rattle.ckpt_types.specs.declared.identities.Who.{Who}
use Rattle.ckpt_types.specs.declared.identities.Who.TheVariants.{Actor, Call}
use Rattle.client_calls.specs.declared.in_hand.InHand.{InHand}
use Rattle.world_core.specs.declared.world.World.{World}
use Rattle.cluster_record.specs.Places.{list_or, or_none}
use Rattle.cluster_record.specs.RecordState.{empty_record}
use Rattle.world_core.specs.HandsState.{HandsState, alone_in, hand_at}
use Rattle.client_calls.specs.AlonePlaces.{found_alone}
use Rattle.client_calls.specs.TableState.{TableState, next_in, kept_in, pending_in}
use Rattle.client_calls.specs.NewTable.{new_table}
use Rattle.ckpt_machine.specs.Machine.{no_tables}
use Rattle.world_core.specs.Runs.{IsNew}
use Rattle.world_core.specs.Shows.{number_in}
use Rattle.ckpt_machine.proofs.NodeLists.{slice_get-replicate}

-- no actor has an asynchronous call
none_alone : (a : ActorName) → alone_in (replicate 100 []) a ≡ []
none_alone (Client c) = slice_get-replicate (λ (o : Option (List (Option InHand))). list_or o ≡ []) [] refl refl 100 c
none_alone (Node r) = refl

-- under no name a call is in hand
none_in_hand : (hands : HandsState) → hands.clients ≡ replicate 100 None → hands.alone ≡ replicate 100 [] → hands.nodes ≡ replicate 8 None → (v : Who) → hand_at hands v ≡ None
none_in_hand hands clients alone nodes (Actor (Client c)) = ap (λ (hs : List (Option InHand)). or_none (slice_get hs c)) clients ∙ slice_get-replicate (λ (o : Option (Option InHand)). or_none o ≡ None) None refl refl 100 c
none_in_hand hands clients alone nodes (Actor (Node r)) = ap (λ (hs : List (Option InHand)). or_none (slice_get hs r)) nodes ∙ slice_get-replicate (λ (o : Option (Option InHand)). or_none o ≡ None) None refl refl 8 r
none_in_hand hands clients alone nodes (Call call) = ap (λ lists. found_alone call (alone_in lists call.actor)) alone ∙ ap (found_alone call) (none_alone call.actor)

-- a world whose parts are new is new
pub is_new : (w : World) → w.cluster ≡ empty_record → w.nodes ≡ replicate 8 [] → w.snapshots ≡ [] → w.tables ≡ replicate 100 new_table → w.hands.clients ≡ replicate 100 None → w.hands.alone ≡ replicate 100 [] → w.hands.nodes ≡ replicate 8 None → w.numbers ≡ replicate 8 1 → IsNew w
is_new w cluster nodes snapshots tables clients alone copies numbers = record {
  cluster = cluster;
  nodes = nodes;
  snapshots = snapshots;
  next = λ c. ap (λ (ts : List TableState). next_in (slice_get ts c)) tables ∙ slice_get-replicate (λ o. next_in o ≡ 1) new_table refl refl 100 c;
  numbers = λ r. ap (λ (ns : List ℕ). number_in (slice_get ns r)) numbers ∙ slice_get-replicate (λ o. number_in o ≡ 1) 1 refl refl 8 r;
  tables = λ c. ap (λ (ts : List TableState). kept_in (slice_get ts c)) tables ∙ slice_get-replicate (λ o. kept_in o ≡ no_tables) new_table refl refl 100 c;
  pending = λ c. ap (λ (ts : List TableState). pending_in (slice_get ts c)) tables ∙ slice_get-replicate (λ o. pending_in o ≡ no_pending) new_table refl refl 100 c;
  hands = none_in_hand w.hands clients alone copies;
}
