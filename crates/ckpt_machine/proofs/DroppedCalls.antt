-- Calls that own and make nothing are dropped, or others are kept as not dispatched: what holds of all that are left stays.
use Rattle.std.proofs.Common.{◌≡◌, ℕ, Option, Some, None, Bool, true, false, cond, not, refl, sym, ap, ◌∙◌}
use Rattle.std.specs.Prelude.{is_some, if◌then◌else◌}
use Rattle.ckpt_types.specs.declared.identities.ActorName.{ActorName}
use Rattle.ckpt_types.specs.declared.identities.CallId.{CallId}
use Rattle.ckpt_types.specs.declared.identities.Who.{Who}
use Rattle.call_dispatch.specs.PendingCalls.{PendingCalls}
use Rattle.weak_marks.specs.Marks.{Marked}
use Rattle.ckpt_machine.specs.InHand.{IsInHand}
use Rattle.ckpt_machine.specs.Invariant.{IsMaker, AreCalls, InvariantIn}
use Rattle.ckpt_machine.specs.Machine.{Machine, CallState, who}
use Rattle.ckpt_machine.specs.Shape.{Shape, IsOwner, IsMarker, IsHolder}
use Rattle.ckpt_machine.specs.Due.{driver_of}
use Rattle.ckpt_machine.proofs.FewerCalls.{calls_fewer}
use Rattle.ckpt_machine.proofs.Lives.{lives_on-fewer, enters-fewer, dead_on}
use Rattle.ckpt_machine.proofs.OtherCalls.{IsIn-apart, IsGoodIn-apart}
use Rattle.ckpt_machine.proofs.PlainCalls.{is_plain, is_plain_sync, does_not_plain}

-- without those in hand under some names
abbrev pub without_those : (Who → Bool) → Machine → Machine
without_those gone m = record m { in_hand = λ w. if gone w then None else m.in_hand w }

-- what is left was in hand
pub left_in : (gone : Who → Bool) (m : Machine) (w : Who) (z : CallState) → (without_those gone m).in_hand w ≡ Some z → (gone w ≡ false) × (m.in_hand w ≡ Some z)
left_in gone m w z left = elim (gone w) as (λ b. cond b None (m.in_hand w) ≡ Some z → (b ≡ false) × (m.in_hand w ≡ Some z)) [ true ↦ λ none. absurd (cc none) | false ↦ λ there. (refl, there) ] left

module _ (m : Machine) (shapes : ℕ → Shape) (inv : InvariantIn shapes m) where
  -- ---- some are in hand no more

  module _ (gone : Who → Bool) (plain : (w : Who) (z : CallState) → m.in_hand w ≡ Some z → gone w ≡ true → is_plain (driver_of z) z.snapshot ≡ true) where
    -- one that owns something, or makes something, is left
    stays : (w : Who) (z : CallState) → m.in_hand w ≡ Some z → is_plain (driver_of z) z.snapshot ≡ false → (without_those gone m).in_hand w ≡ m.in_hand w
    stays w z at owns = elim (gone w) as (λ b. gone w ≡ b → cond b None (m.in_hand w) ≡ m.in_hand w) [
      | true ↦ λ is. absurd (let e : true ≡ false = sym (plain w z at is) ∙ owns in cc e)
      | false ↦ λ is. refl
    ] refl

    owner_stays : (k : ℕ) (sh : Shape) (r : ℕ) (d : CallId) → sh.owners r ≡ Some d → (own : IsOwner m k sh d) → (without_those gone m).in_hand (who own.state) ≡ m.in_hand (who own.state)
    owner_stays k sh r d owns own = stays (who own.state) own.state own.in_hand (does_not_plain (driver_of own.state) own.driver own.state.snapshot own.driver_is)

    marker_stays : (k : ℕ) (sh : Shape) (marks : Marked) → sh.marks ≡ Some marks → (own : IsMarker m k marks) → (without_those gone m).in_hand (who own.state) ≡ m.in_hand (who own.state)
    marker_stays k sh marks stand own = stays (who own.state) own.state own.in_hand (ap (λ d. is_plain d own.state.snapshot) own.driver_is ∙ ap (λ w. not (is_some w)) own.made_is)

    holder_stays : (k : ℕ) (active : Option ℕ) (d : CallId) (own : IsHolder m k active d) → (without_those gone m).in_hand (who own.state) ≡ m.in_hand (who own.state)
    holder_stays k active d own = stays (who own.state) own.state own.in_hand (ap (λ d. is_plain d own.state.snapshot) own.driver_is ∙ ap (λ kind. is_plain_sync kind own.state.snapshot) own.kind ∙ ap not own.some)

    maker_stays : (k : ℕ) (d : CallId) (own : IsMaker m k d) → (without_those gone m).in_hand (who own.state) ≡ m.in_hand (who own.state)
    maker_stays k d own = stays (who own.state) own.state own.in_hand (ap (λ d. is_plain d own.state.snapshot) own.driver_is ∙ ap (λ w. not (is_some w)) own.making_is)

    hands_left : (w : Who) (z : CallState) → (without_those gone m).in_hand w ≡ Some z → IsInHand (without_those gone m) shapes w z
    hands_left w z left = let was = inv.hands w z (left_in gone m w z left).1 in record { whose = was.whose; asker = was.asker; number = was.number; built = was.built; driven = was.driven; live = was.live; home = was.home; here = IsIn-apart m shapes m.next m.pending (without_those gone m).in_hand (dead_on m (without_those gone m) (λ d. refl) refl (enters-fewer m (without_those gone m) (λ w z left. (left_in gone m w z left).1))) z was.asker (driver_of z) was.here }

    pub dropped_keeps : InvariantIn shapes (without_those gone m)
    dropped_keeps = record {
      up = inv.up;
      first_up = inv.first_up;
      incarnations = inv.incarnations;
      none_live = inv.none_live;
      rises = inv.rises;
      up_to = inv.up_to;
      few = inv.few;
      swept = inv.swept;
      entries = λ k e found. IsGoodIn-apart m shapes m.next m.pending (without_those gone m).in_hand (lives_on-fewer m (without_those gone m) shapes shapes inv (λ d. refl) refl refl hands_left (λ w z left. (left_in gone m w z left).1)) owner_stays marker_stays holder_stays maker_stays k (shapes k) e e.making (inv.entries k e found);
      replicas = inv.replicas;
      reserves = inv.reserves;
      handles = inv.handles;
      rest = inv.rest;
      clients = inv.clients;
      places = inv.places;
      hands = hands_left;
      calls = calls_fewer m.in_hand (without_those gone m).in_hand m.pending m.next (λ w z left. (left_in gone m w z left).1) inv.calls;
    }

  -- ---- others are not dispatched

  hands_still : (pending : ActorName → PendingCalls) (w : Who) (z : CallState) → m.in_hand w ≡ Some z → IsInHand (record m { pending = pending }) shapes w z
  hands_still pending w z held = let was = inv.hands w z held in record { whose = was.whose; asker = was.asker; number = was.number; built = was.built; driven = was.driven; live = was.live; home = was.home; here = IsIn-apart m shapes m.next pending m.in_hand (dead_on m (record m { pending = pending }) (λ d. refl) refl (enters-fewer m (record m { pending = pending }) (λ w z held. held))) z was.asker (driver_of z) was.here }

  pub pending_keeps : (pending : ActorName → PendingCalls) → AreCalls m.in_hand pending m.next → InvariantIn shapes (record m { pending = pending })
  pending_keeps pending calls = record {
    up = inv.up;
    first_up = inv.first_up;
    incarnations = inv.incarnations;
    none_live = inv.none_live;
    rises = inv.rises;
    up_to = inv.up_to;
    few = inv.few;
    swept = inv.swept;
    entries = λ k e found. IsGoodIn-apart m shapes m.next pending m.in_hand (lives_on-fewer m (record m { pending = pending }) shapes shapes inv (λ d. refl) refl refl (hands_still pending) (λ w z held. held)) (λ k sh r d owns own. refl) (λ k sh marks stand own. refl) (λ k active d own. refl) (λ k d own. refl) k (shapes k) e e.making (inv.entries k e found);
    replicas = inv.replicas;
    reserves = inv.reserves;
    handles = inv.handles;
    rest = inv.rest;
    clients = inv.clients;
    places = inv.places;
    hands = hands_still pending;
    calls = calls;
  }
