-- What becomes of asynchronous calls where a handle is closed or a client leaves: the world that the code makes is the one of the machine.
use Rattle.std.proofs.Common.{◌≡◌, ℕ, Bool, true, false, Option, Some, None, refl, sym, ap, subst, ◌∙◌, cond}
use Rattle.ckpt_types.specs.declared.identities.ActorName.{ActorName}
use Rattle.ckpt_types.specs.declared.identities.ActorName.TheVariants.{Client, Node}
use Rattle.ckpt_types.specs.declared.identities.Who.{Who}
use Rattle.ckpt_types.specs.declared.identities.Who.TheVariants.{Actor, Call}
use Rattle.call_dispatch.specs.PendingCalls.{PendingCalls, no_pending}
use Rattle.cluster_record.specs.RecordState.{RecordState}
use Rattle.ckpt_machine.specs.Machine.{Machine}
use Rattle.ckpt_machine.specs.After.{goes_with, left_over, with_pending, without_calls, without_syncs}
use Rattle.ckpt_machine.specs.Whose.{is_of}
use Rattle.client_calls.specs.declared.in_hand.InHand.{InHand}
use Rattle.client_calls.specs.TableState.{with_calls}
use Rattle.world_core.specs.declared.world.World.{World}
use Rattle.world_core.specs.Alone.{Going, Nothing, Syncs, All, calls_gone, gone_with, hands_behind, syncs_gone, tables_behind}
use Rattle.world_core.specs.HandsState.{HandsState, hand_at, set_at, without_those}
use Rattle.world_core.specs.Shows.{History, HistoryFits, FitsHand, machine_of, shown_hand}
use Rattle.world_core.specs.TablesState.{at_client, pending_by}
use Rattle.world_core.specs.LiveRooms.{LiveHaveRoom}
use Rattle.world_core.proofs.HandLaws.{calls_gone-at, none_go, syncs_gone-at}
use Rattle.world_core.proofs.LiveRooms.{rooms_calls}
use Rattle.world_core.proofs.TableFields.{calls_is}

-- ---- without the calls of a client whose names meet a test, and with what is left of those that it is to be told of

shown_without : (b : Bool) (h : History) (v : Who) (o : Option InHand) → shown_hand (h.beginnings v) (h.steps v) (h.created v) (h.pulled v) (cond b None o) ≡ cond b None (shown_hand (h.beginnings v) (h.steps v) (h.created v) (h.pulled v) o)
shown_without true h v o = refl
shown_without false h v o = refl

fits_without : (b : Bool) (h : History) (v : Who) (o : Option InHand) → FitsHand (h.beginnings v) (h.steps v) (h.created v) (h.pulled v) o → FitsHand (h.beginnings v) (h.steps v) (h.created v) (h.pulled v) (cond b None o)
fits_without true h v o fits = tt
fits_without false h v o fits = fits

module _ (w : World) (h : History) (c : ℕ) (test : Who → Bool) (hands : HandsState) (at : (v : Who) → hand_at hands v ≡ cond (test v) None (hand_at w.hands v)) (left : PendingCalls → PendingCalls) where
  abbrev m : Machine
  m = machine_of w h

  abbrev new : World
  new = record w { hands = hands; tables = at_client c (with_calls left) w.tables }

  -- so the machine is
  are_gone : left no_pending ≡ no_pending → with_pending (Client c) left (record m { in_hand = λ v. cond (test v) None (m.in_hand v) }) ≡ machine_of new h
  are_gone none =
      let calls = calls_is w h c left none in
      let one = λ (v : Who). ap (shown_hand (h.beginnings v) (h.steps v) (h.created v) (h.pulled v)) (at v) ∙ shown_without (test v) h v (hand_at w.hands v) in
      λ i. record (calls i) { in_hand = λ v. sym (one v) i }

  -- and the others are where their steps have led them
  others_fit : HistoryFits w h → HistoryFits new h
  others_fit fits = record {
    replicas = fits.replicas;
    copies = fits.copies;
    hands = λ v. subst (FitsHand (h.beginnings v) (h.steps v) (h.created v) (h.pulled v)) (sym (at v)) (fits_without (test v) h v (hand_at w.hands v) (fits.hands v));
  }

left_none : (handle : Option ℕ) → left_over handle no_pending ≡ no_pending
left_none None = refl
left_none (Some handle) = refl

-- without the synchronisations over a handle, if one is closed
pub syncs_are : (w : World) (h : History) (c : ℕ) (handle : Option ℕ) → without_syncs handle (Client c) (machine_of w h) ≡ machine_of (syncs_gone c handle w) h
syncs_are w h c handle = are_gone w h c (goes_with handle (Client c) (pending_by w.tables c)) (syncs_gone c handle w).hands (syncs_gone-at c handle w) (left_over handle) (left_none handle)

-- without all
pub all_gone : (w : World) (h : History) (c : ℕ) → without_calls (Client c) (machine_of w h) ≡ machine_of (calls_gone c w) h
all_gone w h c = are_gone w h c (is_of (Client c)) (calls_gone c w).hands (calls_gone-at c w) (λ p. no_pending) refl

-- ---- behind a step

-- its client waits for the call
abbrev pub IsWaitedFor : Who → Type 0
IsWaitedFor (Actor a) = Unit {0}
IsWaitedFor (Call call) = ⊥

-- only one that its client waits for closes a handle, or leaves
abbrev pub MayGo : Going → Option ℕ → Who → Type 0
MayGo Nothing handle v = Unit {0}
MayGo Syncs None v = Unit {0}
MayGo Syncs (Some handle) v = IsWaitedFor v
MayGo All handle v = IsWaitedFor v

-- where no handle is closed nothing goes with it
none_closed : (p : PendingCalls) (c : ℕ) (hands : HandsState) → without_those c (goes_with None (Client c) p) hands ≡ hands
none_closed p c hands = none_go c (goes_with None (Client c) p) (λ v. refl) hands

-- the call that takes it is in hand still
pub gone_here : (w : World) (c : ℕ) (handle : Option ℕ) (going : Going) (v : Who) → MayGo going handle v → hand_at (hands_behind going c handle w) v ≡ hand_at w.hands v
gone_here w c handle Nothing v may = refl
gone_here w c None Syncs v may = ap (λ hands. hand_at hands v) (none_closed (pending_by w.tables c) c w.hands)
gone_here w c (Some handle) Syncs (Actor a) may = refl
gone_here w c (Some handle) Syncs (Call call) may = absurd may
gone_here w c handle All (Actor a) may = refl
gone_here w c handle All (Call call) may = absurd may

-- it does not matter that its place was set before
pub gone_set : (w : World) (c : ℕ) (handle : Option ℕ) (going : Going) (v : Who) (o : Option InHand) → MayGo going handle v → gone_with going c handle (record w { hands = set_at w.hands v o }) ≡ record (gone_with going c handle w) { hands = set_at (hands_behind going c handle w) v o }
gone_set w c handle Nothing v o may = refl
gone_set w c None Syncs v o may = let none = none_closed (pending_by w.tables c) c in ap (λ hands. record (gone_with Syncs c None w) { hands = hands }) (none (set_at w.hands v o) ∙ ap (λ hands. set_at hands v o) (sym (none w.hands)))
gone_set w c (Some handle) Syncs (Actor (Client d)) o may = refl
gone_set w c (Some handle) Syncs (Actor (Node r)) o may = refl
gone_set w c (Some handle) Syncs (Call call) o may = absurd may
gone_set w c handle All (Actor (Client d)) o may = refl
gone_set w c handle All (Actor (Node r)) o may = refl
gone_set w c handle All (Call call) o may = absurd may

module _ (w : World) (c : ℕ) (handle : Option ℕ) where
  -- what each actor waits for is in hand
  pub gone_waited : (going : Going) (b : ActorName) → hand_at (hands_behind going c handle w) (Actor b) ≡ hand_at w.hands (Actor b)
  gone_waited Nothing b = refl
  gone_waited going (Client d) = refl
  gone_waited going (Node r) = refl

  -- it does not matter that the record has changed before
  pub gone_record : (R : RecordState) (going : Going) → record (gone_with going c handle w) { cluster = R } ≡ gone_with going c handle (record w { cluster = R })
  gone_record R Nothing = refl
  gone_record R going = refl

  -- a history that fits does so still
  pub gone_fits : (going : Going) (h : History) → HistoryFits w h → HistoryFits (gone_with going c handle w) h
  gone_fits Nothing h fits = record { replicas = fits.replicas; copies = fits.copies; hands = fits.hands }
  gone_fits Syncs h fits = others_fit w h c (goes_with handle (Client c) (pending_by w.tables c)) (syncs_gone c handle w).hands (syncs_gone-at c handle w) (left_over handle) fits
  gone_fits All h fits = others_fit w h c (is_of (Client c)) (calls_gone c w).hands (calls_gone-at c w) (λ p. no_pending) fits

  -- and the live clients have their room
  pub rooms_gone : (R : RecordState) (going : Going) → LiveHaveRoom R w.tables → LiveHaveRoom R (tables_behind going c handle w)
  rooms_gone R Nothing rooms = rooms
  rooms_gone R Syncs rooms = rooms_calls w R c (left_over handle) rooms
  rooms_gone R All rooms = rooms_calls w R c (λ p. no_pending) rooms
