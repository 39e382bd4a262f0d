-- An asynchronous call in hand is a client's; and a step of a call answers its line.
use Rattle.std.proofs.Common.{◌≡◌, ◌⊎◌, ℕ, ◌<◌, inl, Some, sym, ap, subst, ◌∙◌}
use Rattle.std.specs.Prelude.{Result, Ok, Err, OnOk, Bool, slice_get}
use Rattle.ckpt_types.specs.declared.identities.ActorName.{ActorName}
use Rattle.ckpt_types.specs.declared.identities.ActorName.TheVariants.{Client, Node}
use Rattle.ckpt_types.specs.declared.identities.CallId.{CallId}
use Rattle.ckpt_types.specs.declared.identities.Who.{Who}
use Rattle.ckpt_types.specs.declared.identities.Who.TheVariants.{Call}
use Rattle.ckpt_types.specs.Limits.{client_numbers}
use Rattle.node_msgs.specs.declared.next.Next.{Next}
use Rattle.client_handles.specs.ClientState.{ClientState}
use Rattle.run_labels.specs.Kept.{KeptLabels}
use Rattle.cluster_record.specs.Calls.{IsClient, client_of, number_of}
use Rattle.cluster_record.specs.Makings.{makings_of}
use Rattle.ckpt_machine.specs.Driving.{driver_next}
use Rattle.ckpt_machine.specs.Facts.{Facts}
use Rattle.ckpt_machine.specs.Tables.{rooms_in}
use Rattle.ckpt_machine.proofs.AsyncNames.{async_named}
use Rattle.client_calls.specs.declared.in_hand.InHand.{InHand}
use Rattle.world_core.specs.declared.world.World.{World}
use Rattle.client_calls.specs.Names.{client_by}
use Rattle.world_core.specs.HandsState.{hand_at}
use Rattle.world_core.specs.Happenings.{Adds, IsNext, IsStep, IsIdle, rooms_at}
use Rattle.world_core.specs.Shows.{IsShown}
use Rattle.client_calls.specs.TableState.{TableState}
use Rattle.world_core.proofs.Held.{async_client, state_in, in_hand_is}
use Rattle.world_core.proofs.TableSteps.{kept_is}

number_below : (call : CallId) → IsClient call.actor → client_of call < client_numbers
number_below call is = by_actor call.actor is where
  by_actor : (a : ActorName) → IsClient a → number_of a < client_numbers
  by_actor (Client c) is = is
  by_actor (Node r) is = absurd is

-- the client of an asynchronous call in hand is one that a script may name
pub client_below : (w : World) (call : CallId) (hand : InHand) → IsShown w → hand_at w.hands (Call call) ≡ Some hand → client_of call < client_numbers
client_below w call hand shown held =
    let h = shown.shows.history in
    let facts = subst Facts shown.shows.same shown.facts in
    let s = state_in h (Call call) hand in
    let here = in_hand_is w h (Call call) hand held in
    let name = facts.callers (Call call) s here in
    number_below call (subst (λ (z : CallId). IsClient z.actor) (async_named s call name).1 (async_client s call (facts.askers (Call call) s here) name))

-- what is next for it, by its client's table
pub next_there : (w : World) (v : Who) (hand : InHand) (c : ℕ) (t : TableState) (next : Next) → hand_at w.hands v ≡ Some hand → c ≡ client_by v → slice_get w.tables c ≡ Some t → next ≡ driver_next w.cluster (rooms_in (makings_of c w.cluster.entries) t.client) hand.driver → IsNext w v next
next_there w v hand c t next held same there is = record {
  hand = hand;
  held = held;
  next_is = ap (λ d. driver_next w.cluster (rooms_at w d) hand.driver) (sym same) ∙ ap (λ (s : ClientState). driver_next w.cluster (rooms_in (makings_of c w.cluster.entries) s) hand.driver) (kept_is w.tables c t there) ∙ sym is;
}

-- where the call is there, its line is answered by its step
pub by_step : {E : Type 0} (result : Result (Unit {0}) E) (old new : KeptLabels) (v : Who) (finish : Bool) (w w' : World) → OnOk result (Adds old new (IsStep v w w')) → OnOk result (Adds old new (λ label. IsStep v w w' label ⊎ IsIdle v finish w w' label))
by_step (Ok done) old new v finish w w' added = record { label = added.label; labels = added.labels; is = inl added.is }
by_step (Err error) old new v finish w w' added = tt
