-- The call in hand under a name, as the machine that is shown has it.
use Rattle.std.proofs.Common.{◌≡◌, ℕ, Bool, true, false, cond, List, ◌∷◌, refl, sym, ap, subst, ◌∙◌}
use Rattle.std.specs.Prelude.{Option, Some, None}
use Rattle.std.proofs.lemmas.Option.{same_Some}
use Rattle.ckpt_types.specs.declared.identities.ActorName.{ActorName}
use Rattle.ckpt_types.specs.declared.identities.ActorName.TheVariants.{Client, Node}
use Rattle.ckpt_types.specs.declared.identities.CallId.{CallId}
use Rattle.ckpt_types.specs.declared.identities.Who.TheVariants.{Actor, Call}
use Rattle.ckpt_types.specs.OpWord.{is_async, word_of_op}
use Rattle.ckpt_types.specs.declared.answers.Outcome.{Outcome}
use Rattle.node_msgs.specs.declared.details.Details.{Details}
use Rattle.node_msgs.specs.declared.replies.Reply.{Reply}
use Rattle.node_msgs.specs.declared.requests.Request.{Request}
use Rattle.node_msgs.specs.declared.next.Next.{Next}
use Rattle.client_calls.specs.MadeIds.{made_behind}
use Rattle.client_calls.specs.declared.in_hand.InHand.{InHand}
use Rattle.world_core.specs.declared.world.World.{World}
use Rattle.cluster_record.specs.Calls.{left, number_of, IsClient}
use Rattle.cluster_record.specs.DueCopy.{CopyState}
use Rattle.cluster_record.specs.StepDone.{StepDone}
use Rattle.ckpt_machine.specs.Drivers as drivers
use Rattle.ckpt_machine.specs.Driving.{Kept, driver_next, driver_taken}
use Rattle.client_calls.specs.HandSteps.{hand_taken}
use Rattle.world_core.specs.Happenings.{rooms_at, IsNext}
use Rattle.ckpt_machine.specs.Machine.{CallState, Effect, Snapshot, who}
use Rattle.snap_copy.specs.Snapshots as copies
use Rattle.client_calls.specs.HandRooms.{room_for}
use Rattle.ckpt_types.specs.Asks.{MayAsk, asked, is_async_ask}
use Rattle.ckpt_types.specs.Asks as asks
use Rattle.ckpt_machine.specs.Tables.{rooms_in}
use Rattle.ckpt_machine.specs.Due.{due, driver_of, makings_by, rooms_of}
use Rattle.ckpt_machine.specs.Facts.{Facts}
use Rattle.world_core.specs.HandsState.{hand_at}
use Rattle.client_calls.specs.Names.{IsClientName, client_by, name_of}
use Rattle.ckpt_types.specs.declared.identities.Who.{Who}
use Rattle.world_core.specs.Shows.{Beginning, History, HistoryFits, FitsHand, KeepsMade, machine_of, tables_of, shown_hand}
use Rattle.ckpt_machine.specs.Shown.{FitsCopy, IsRoomToCopy, shown_copy}
use Rattle.ckpt_machine.proofs.AskedFor.{copy_driven}
use Rattle.ckpt_machine.proofs.Askers.{IsCopyAsk, asker_client, asker_node, copy_ask}
use Rattle.ckpt_machine.proofs.AsyncNames.{async_asked, async_named}

-- the call with its history
abbrev pub state_in : History → Who → InHand → CallState
state_in h v hand = record { call = hand.call; op = hand.op; kept = (h.beginnings v).kept; begun = (h.beginnings v).driver; steps = h.steps v; created = h.created v; snapshot = shown_copy (h.pulled v) hand.snapshot }

-- the actor whose call is stepped by a name
abbrev pub actor_by : Who → ActorName
actor_by (Actor a) = a
actor_by (Call call) = call.actor

-- by whichever name a call is stepped, it is of its own actor
actor_named : (hand : InHand) → hand.call.actor ≡ actor_by (name_of hand)
actor_named hand = by_word (is_async (word_of_op hand.op)) where
  by_word : (b : Bool) → hand.call.actor ≡ actor_by (cond b (Call hand.call) (Actor hand.call.actor))
  by_word true = refl
  by_word false = refl

pub number_by : (v : Who) → number_of (actor_by v) ≡ client_by v
number_by (Actor a) = refl
number_by (Call call) = refl

pub client_number : (a : ActorName) → IsClient a → a ≡ Client (number_of a)
client_number (Client c) is = refl
client_number (Node r) is = absurd is

-- an asynchronous call is a client's
pub async_client : (s : CallState) (call : CallId) → MayAsk s.call.actor (asked s.op) → who s ≡ Call call → IsClient s.call.actor
async_client s call asker name =
    let async : is_async_ask (asked s.op) ≡ true = sym (async_asked s.op) ∙ (async_named s call name).0 in
    asker_client s.call.actor (asked s.op) asker (λ copies. let w : false ≡ true = ap is_async_ask (sym (copy_ask (asked s.op) copies)) ∙ async in cc w)

module _ (w : World) (h : History) (v : Who) (hand : InHand) (held : hand_at w.hands v ≡ Some hand) where
  pub in_hand_is : (machine_of w h).in_hand v ≡ Some (state_in h v hand)
  in_hand_is = ap (shown_hand (h.beginnings v) (h.steps v) (h.created v) (h.pulled v)) held

  -- it is where its steps have led it
  pub driver_is : HistoryFits w h → hand.driver ≡ driver_of (state_in h v hand)
  driver_is fits = (subst (FitsHand (h.beginnings v) (h.steps v) (h.created v) (h.pulled v)) held (fits.hands v)).driver

  -- with the room that it took for an iteration
  pub iteration_is : HistoryFits w h → hand.iteration ≡ room_for (asked hand.op) (h.beginnings v).kept.room
  iteration_is fits = (subst (FitsHand (h.beginnings v) (h.steps v) (h.created v) (h.pulled v)) held (fits.hands v)).iteration

  -- it is in hand under its own name
  pub name_is : Facts (machine_of w h) → name_of hand ≡ v
  name_is facts = facts.callers v (state_in h v hand) in_hand_is

  -- so it is of the actor of that name
  pub actor_is : Facts (machine_of w h) → hand.call.actor ≡ actor_by v
  actor_is facts = actor_named hand ∙ ap actor_by (name_is facts)

  -- who may ask for what it asks for
  pub asker_is : Facts (machine_of w h) → MayAsk hand.call.actor (asked hand.op)
  asker_is facts = facts.askers v (state_in h v hand) in_hand_is

  -- a copying drives a copying, whatever else is asked for does not
  pub copy_drives : Facts (machine_of w h) → HistoryFits w h → IsCopyAsk (asked hand.op) → (c : CopyState) × (hand.driver ≡ drivers.Copy c)
  copy_drives facts fits copies = let (c, is) = copy_driven (state_in h v hand) (facts.driven v (state_in h v hand) in_hand_is) (copy_ask (asked hand.op) copies) in (c, driver_is fits ∙ is)

  -- a client's call is that of the client of the name
  pub of_client : Facts (machine_of w h) → IsClient hand.call.actor → hand.call.actor ≡ Client (client_by v)
  of_client facts client = client_number hand.call.actor client ∙ ap (λ a. Client (number_of a)) (actor_is facts) ∙ ap Client (number_by v)

  -- as it is where it asks for no copying
  pub client_asks : Facts (machine_of w h) → (IsCopyAsk (asked hand.op) → ⊥) → hand.call.actor ≡ Client (client_by v)
  client_asks facts other = of_client facts (asker_client hand.call.actor (asked hand.op) (asker_is facts) other)

  -- and where the name is one that a client's call may have
  pub client_is : Facts (machine_of w h) → IsClientName v → hand.call.actor ≡ Client (client_by v)
  client_is facts named = of_client facts (by_name v named (name_is facts) (actor_is facts)) where
    by_name : (u : Who) → IsClientName u → name_of hand ≡ u → hand.call.actor ≡ actor_by u → IsClient hand.call.actor
    by_name (Actor (Client c)) named name actor = subst IsClient (sym actor) named
    by_name (Actor (Node r)) named name actor = absurd named
    by_name (Call call) named name actor = async_client (state_in h v hand) call (asker_is facts) name

  pub in_hand_at : Facts (machine_of w h) → (machine_of w h).in_hand (name_of hand) ≡ Some (state_in h v hand)
  in_hand_at facts = ap (machine_of w h).in_hand (name_is facts) ∙ in_hand_is

  -- what the code finds due is due
  pub due_is : Facts (machine_of w h) → HistoryFits w h → (n : Next) → driver_next w.cluster (rooms_at w (client_by v)) hand.driver ≡ n → due (machine_of w h) (state_in h v hand) ≡ n
  due_is facts fits n next = by_actor hand.call.actor refl ∙ ap (driver_next w.cluster (rooms_at w (client_by v))) (sym (driver_is fits)) ∙ next where
    -- the rooms are those of its client; a copying looks at none
    by_actor : (a : ActorName) → hand.call.actor ≡ a → due (machine_of w h) (state_in h v hand) ≡ driver_next w.cluster (rooms_at w (client_by v)) (driver_of (state_in h v hand))
    by_actor (Client c) actor =
        let own : hand.call.actor ≡ Client (client_by v) = actor ∙ ap Client (ap number_of (sym actor ∙ actor_is facts) ∙ number_by v) in
        ap (λ (b : ActorName). driver_next w.cluster (rooms_in (makings_by b w.cluster.entries) (tables_of w.tables b)) (driver_of (state_in h v hand))) own
    by_actor (Node r) actor =
        let copies : asked hand.op ≡ asks.Copy = copy_ask (asked hand.op) (asker_node r (asked hand.op) (subst (λ b. MayAsk b (asked hand.op)) actor (asker_is facts))) in
        let (c, is) = copy_driven (state_in h v hand) (facts.driven v (state_in h v hand) in_hand_is) copies in
        ap (driver_next w.cluster (rooms_of (machine_of w h) (state_in h v hand))) is ∙ sym (ap (driver_next w.cluster (rooms_at w (client_by v))) is)

-- what is next for the call, is next for the one that is found in hand
pub next_for : (w : World) (v : Who) (n : Next) (hand : InHand) → hand_at w.hands v ≡ Some hand → IsNext w v n → driver_next w.cluster (rooms_at w (client_by v)) hand.driver ≡ n
next_for w v n hand held next = ap (λ (h : InHand). driver_next w.cluster (rooms_at w (client_by v)) h.driver) (same_Some hand next.hand (sym held ∙ next.held)) ∙ next.next_is

-- ---- a call that is told of a step

-- what a step at a node leaves in a hand: what it has to copy is there, or has come
abbrev pub with_copy : InHand → Option copies.Snapshot → InHand
with_copy hand copy = record hand { snapshot = copy }

-- and what a creation keeps of its commits
abbrev pub with_made : InHand → Option copies.Snapshot → Option (List (List ℕ)) → InHand
with_made hand copy kept = record hand { snapshot = copy; made = kept }

-- what a creation keeps of the reply to its commit
abbrev pub hand_made : Request → Reply → Details → InHand → InHand
hand_made request reply details hand = record hand { made = made_behind hand.op request reply details hand.made }

-- the copy that a call has in hand behind a step, as the machine has it and as the code has it: it has room for what the call keeps then of its checkpoint, and counts the effects that the history tells of it
pub record IsCopyBehind (kept : Kept) (hand : InHand) (shown : Option Snapshot) (pulled : Option (List Effect)) (copy : Option copies.Snapshot) : Type 0 where
  pub same : shown ≡ shown_copy pulled copy
  pub room : IsRoomToCopy (asked hand.op) kept.declares copy
  pub counts : FitsCopy pulled copy

-- what a call began with, where it keeps this of it
abbrev pub beginning_of : History → Who → Kept → Beginning
beginning_of h v kept = record { kept = kept; driver = (h.beginnings v).driver }

-- it goes on with it, or has ended
module _ (h : History) (v : Who) (hand : InHand) (keeps : Kept) (done : StepDone) (made : Option (List ℕ)) (shown : Option Snapshot) (pulled : Option (List Effect)) (copy : Option copies.Snapshot) (kept : Option (List (List ℕ))) where
  pub left_shown : (end : Option Outcome) → shown ≡ shown_copy pulled copy →
      left end (record (state_in h v hand) { kept = keeps; steps = done ∷ h.steps v; created = made; snapshot = shown }) ≡ shown_hand (beginning_of h v keeps) (done ∷ h.steps v) made pulled (left end (hand_taken done (with_made hand copy kept)))
  left_shown None same = ap (λ (s : Option Snapshot). Some (record (state_in h v hand) { kept = keeps; steps = done ∷ h.steps v; created = made; snapshot = s })) same
  left_shown (Some o) same = refl

  pub left_fits : (end : Option Outcome) → IsCopyBehind keeps hand shown pulled copy → keeps.room ≡ (h.beginnings v).kept.room → KeepsMade hand.op (driver_taken done hand.driver) made kept →
      FitsHand (h.beginnings v) (h.steps v) (h.created v) (h.pulled v) (Some hand) → FitsHand (beginning_of h v keeps) (done ∷ h.steps v) made pulled (left end (hand_taken done (with_made hand copy kept)))
  left_fits None is room keeps_made fits = record { driver = ap (driver_taken done) fits.driver; iteration = fits.iteration ∙ ap (room_for (asked hand.op)) (sym room); room = is.room; copy = is.counts; made = keeps_made }
  left_fits (Some o) is room keeps_made fits = tt

-- what holds of the hands holds of the one in hand
pub hand_fits : (w : World) (h : History) (v : Who) (hand : InHand) → hand_at w.hands v ≡ Some hand → HistoryFits w h → FitsHand (h.beginnings v) (h.steps v) (h.created v) (h.pulled v) (Some hand)
hand_fits w h v hand held fits = subst (FitsHand (h.beginnings v) (h.steps v) (h.created v) (h.pulled v)) held (fits.hands v)

-- nothing comes into it by a step that pulls nothing
pub copy_stays : (w : World) (h : History) (v : Who) (hand : InHand) → hand_at w.hands v ≡ Some hand → HistoryFits w h → IsCopyBehind (h.beginnings v).kept hand (state_in h v hand).snapshot (h.pulled v) hand.snapshot
copy_stays w h v hand held fits = let is = hand_fits w h v hand held fits in record { same = refl; room = is.room; counts = is.copy }
