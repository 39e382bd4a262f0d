-- A step of a copying that changes reservations alone, and what is left of its call: what holds of every other call and of every checkpoint stays.
use Rattle.std.proofs.Common.{◌≡◌, ◌⊎◌, ℕ, inl, inr, Option, Some, None, Bool, true, false, ◌==◌, refl, sym, ap, subst, ◌∙◌}
use Rattle.std.specs.Prelude.{is_some, IsSome, IsSomeAnd}
use Rattle.ckpt_types.specs.declared.identities.CallId.{CallId}
use Rattle.ckpt_types.specs.declared.identities.Who.{Who}
use Rattle.weak_marks.specs.Marks.{Marked}
use Rattle.cluster_record.specs.declared.calls.Making.{Making}
use Rattle.cluster_record.specs.declared.entries.Entry.{Entry}
use Rattle.cluster_record.specs.DueCopy.{CopyState}
use Rattle.cluster_record.specs.RecordState.{entry_of}
use Rattle.ckpt_machine.specs.Dead.{IsDead}
use Rattle.ckpt_machine.specs.Drivers as drivers
use Rattle.ckpt_machine.specs.Due.{IsDriven, driver_of}
use Rattle.ckpt_machine.specs.InHand.{IsInHand, IsInPlace, IsMakingIn}
use Rattle.ckpt_machine.specs.Invariant.{InvariantIn, IsGoodIn, IsMaker, IsReservedFor}
use Rattle.ckpt_machine.specs.Machine.{Machine, CallState, who}
use Rattle.ckpt_machine.specs.Shape.{Shape, IsOwner, IsMarker, IsHolder, IsLeft, IsSpread}
use Rattle.ckpt_machine.specs.Whose.{put_who, same_who}
use Rattle.ckpt_machine.proofs.CallsKept.{IsSameCall, same_call-None, calls_left}
use Rattle.ckpt_machine.proofs.CopyHand.{HasNone, none_owned, other_node}
use Rattle.ckpt_machine.proofs.LaterIncarnations.{incarnations_stay}
use Rattle.ckpt_machine.proofs.OptionLemmas.{IsSomeAnd-at}
use Rattle.ckpt_machine.proofs.Lives.{LivesOn, lives_on-one, enters-one, dead_on}
use Rattle.ckpt_machine.proofs.OtherCalls.{LooksAlike, LooksLater-refl, LiesUnder-refl, IsIn-alike, making_still, IsHolder-alike, owned_alike, owner_before, IsMarker-alike, IsMaker-alike}
use Rattle.ckpt_machine.proofs.Whose.{same_who-true, one_state, put_who-cases, put_who-other, apart_states}

module _ (m : Machine) (shapes : ℕ → Shape) (inv : InvariantIn shapes m) (s : CallState) (c : CopyState) (held : m.in_hand (who s) ≡ Some s) (is : driver_of s ≡ drivers.Copy c)
    (g : ℕ → ℕ → Option ℕ) (o : Option CallState) (same : IsSameCall s o) (driven : (z : CallState) → o ≡ Some z → IsDriven z) where
  -- the state with these reservations, and with this left of the call
  abbrev pub then_machine : Machine
  then_machine = record m { reserved = g; in_hand = put_who m.in_hand (who s) o }

  -- a dead call is dead still
  pub dead_then : (d : CallId) → IsDead m d → IsDead then_machine d
  dead_then = dead_on m then_machine (λ d. refl) refl (enters-one m then_machine s held (inv.hands (who s) s held).driven o same driven (λ a. refl))

  -- ---- who has marks, holds or makes something is another call

  IsMarker-then : (j : ℕ) (marks : Marked) → IsMarker m j marks → IsMarker then_machine j marks
  IsMarker-then j marks own = IsMarker-alike m then_machine j marks own (put_who-other m.in_hand (who s) o (who own.state) (apart_states m.in_hand own.state s own.in_hand held (λ state. let apart : drivers.Active own.driver ≡ drivers.Copy c = sym own.driver_is ∙ ap driver_of state ∙ is in cc apart)))

  IsHolder-then : (j : ℕ) (active : Option ℕ) (d : CallId) → IsHolder m j active d → IsHolder then_machine j active d
  IsHolder-then j active d own = IsHolder-alike m then_machine j active d own (put_who-other m.in_hand (who s) o (who own.state) (apart_states m.in_hand own.state s own.in_hand held (λ state. let apart : drivers.Sync own.driver ≡ drivers.Copy c = sym own.driver_is ∙ ap driver_of state ∙ is in cc apart))) refl

  IsMaker-then : (j : ℕ) (d : CallId) → IsMaker m j d → IsMaker then_machine j d
  IsMaker-then j d own = IsMaker-alike m then_machine j d own (put_who-other m.in_hand (who s) o (who own.state) (apart_states m.in_hand own.state s own.in_hand held (λ state. let apart : drivers.Open own.driver ≡ drivers.Copy c = sym own.driver_is ∙ ap driver_of state ∙ is in cc apart)))

  -- ---- the whole

  module _ (makings : (j q : ℕ) (e : Entry) → entry_of j m.cluster.entries ≡ Some e → IsSome e.making → g j q ≡ m.reserved j q) (nodes : (j q : ℕ) → (q == c.node) ≡ false → g j q ≡ m.reserved j q)
      (reserves : (j q n : ℕ) → g j q ≡ Some n → IsSomeAnd (entry_of j m.cluster.entries) (IsReservedFor m.cluster q n))
      (own_slots : (j r : ℕ) (e : Entry) → entry_of j m.cluster.entries ≡ Some e → IsSpread m j (shapes j) e → (shapes j).owners r ≡ Some s.call → IsOwner m j (shapes j) s.call → IsOwner then_machine j (shapes j) s.call)
      (own : (z : CallState) → o ≡ Some z → IsInHand then_machine shapes (who s) z) where
    -- another call makes what it made
    making_then : (z : CallState) (w : Making) → IsMakingIn m z w → IsMakingIn then_machine z w
    making_then z w at =
        let (e, found, by) = IsSomeAnd-at (entry_of w.ckpt m.cluster.entries) (λ e. e.making ≡ Some z.call) at.there in
        let stays = λ (q : ℕ). makings w.ckpt q e found (ap is_some by) in
        record { there = at.there; declares = at.declares; nodes = at.nodes; reserved = λ q had. stays q ∙ at.reserved q had; only = λ q none. stays q ∙ at.only q none; within = λ q some. at.within q (ap is_some (sym (stays q)) ∙ some); no_later = at.no_later }

    -- so it sees what it saw
    looks_then : (w : Who) (z : CallState) → same_who w (who s) ≡ false → m.in_hand w ≡ Some z → LooksAlike m then_machine shapes shapes z
    looks_then w z other at = record {
      up = λ r up. up;
      incarnations = incarnations_stay m.cluster m.cluster refl refl;
      lives = λ client. refl;
      node = λ r own. refl;
      home = refl;
      handle = λ there. there;
      making = λ v opens. making_still m then_machine z v (making_then z) opens;
      made = λ k was. was;
      later = λ k was e found. (e, found, LooksLater-refl m.cluster.up z (shapes k) e);
      reserved = λ k r was actor e found lacks. nodes k r (other_node m shapes inv s c held is w z other at r actor);
      owners = λ k was r. refl;
      marks = λ k was. refl;
      under = λ k was e found all. LiesUnder-refl (shapes k);
      dead = λ k f was found. dead_then;
      done = λ k was done. done;
    }

    others : (w : Who) (z : CallState) → same_who w (who s) ≡ false → m.in_hand w ≡ Some z → IsInPlace then_machine shapes z (driver_of z)
    others w z other at = let was = inv.hands w z at in IsIn-alike m then_machine shapes shapes z (looks_then w z other at) was.asker (driver_of z) was.here

    hands_then : (a : Who) (z : CallState) → put_who m.in_hand (who s) o a ≡ Some z → IsInHand then_machine shapes a z
    hands_then a z there = elim (put_who-cases m.in_hand (who s) o a z there) [
      | inl here ↦ subst (λ b. IsInHand then_machine shapes b z) (sym here.0) (own z here.1)
      | inr other ↦ (let was = inv.hands a z other.1 in record { whose = was.whose; asker = was.asker; number = was.number; built = was.built; driven = was.driven; live = was.live; home = was.home; here = others a z other.0 other.1 })
    ]

    lives : LivesOn m then_machine
    lives = lives_on-one m then_machine shapes shapes inv (λ d. refl) refl refl hands_then s held o same (λ a. refl)

    -- a slot has its owner still, or is of a dead call
    owned_then : (j r : ℕ) (e : Entry) → entry_of j m.cluster.entries ≡ Some e → IsSpread m j (shapes j) e → (d : CallId) → (shapes j).owners r ≡ Some d → IsOwner m j (shapes j) d ⊎ IsLeft m (shapes j) d → IsOwner then_machine j (shapes j) d ⊎ IsLeft then_machine (shapes j) d
    owned_then j r e found was d owns (inr left) = inr (dead_then d left.0, dead_then (shapes j).origin left.1)
    owned_then j r e found was d owns (inl own) = by_test (same_who (who own.state) (who s)) refl
      where
        by_test : (b : Bool) → same_who (who own.state) (who s) ≡ b → IsOwner then_machine j (shapes j) d ⊎ IsLeft then_machine (shapes j) d
        by_test false other = owned_alike m then_machine j lives (shapes j) d (λ its. put_who-other m.in_hand (who s) o (who its.state) (ap (λ w. same_who w (who s)) (inv.calls.one_name (who its.state) (who own.state) its.state own.state its.in_hand own.in_hand (its.call_is ∙ sym own.call_is)) ∙ other)) (inl own)
        by_test true here =
            let state : own.state ≡ s = one_state m.in_hand (who own.state) (who s) own.state s own.in_hand held (same_who-true (who own.state) (who s) here) in
            let call : d ≡ s.call = sym own.call_is ∙ ap (λ (z : CallState). z.call) state in
            inl (subst (IsOwner then_machine j (shapes j)) (sym call) (own_slots j r e found was (owns ∙ ap Some call) (subst (IsOwner m j (shapes j)) call own)))

    -- a checkpoint is as it was
    good_then : (j : ℕ) (e : Entry) → entry_of j m.cluster.entries ≡ Some e → (maker : Option CallId) → IsGoodIn m j (shapes j) e maker → IsGoodIn then_machine j (shapes j) e maker
    good_then j e found None good = record {
      well_formed = good.well_formed;
      nodes = good.nodes;
      some = good.some;
      up = good.up;
      active = good.active;
      replicas = good.replicas;
      fits = good.fits;
      all = good.all;
      complete = good.complete;
      lowest = good.lowest;
      first = λ q r d below there owns own. good.first q r d below there owns (owner_before m then_machine j lives (shapes j) d (good.owned r d owns) own);
      owned = λ r d owns. owned_then j r e found good d owns (good.owned r d owns);
      led = good.led;
      marked = λ marks stand. IsMarker-then j marks (good.marked marks stand);
      held = λ d holds. (let on = good.held d holds in record { collocated = on.collocated; unmarked = on.unmarked; holder = IsHolder-then j e.active d on.holder });
    }
    good_then j e found (Some d) good = (good.0, IsMaker-then j d good.1)

    -- the invariant holds after it, where it holds of the call
    pub copy_keeps : InvariantIn shapes then_machine
    copy_keeps = record {
      up = inv.up;
      first_up = inv.first_up;
      incarnations = inv.incarnations;
      none_live = inv.none_live;
      rises = inv.rises;
      up_to = inv.up_to;
      few = inv.few;
      swept = inv.swept;
      entries = λ j e found. good_then j e found e.making (inv.entries j e found);
      replicas = inv.replicas;
      reserves = reserves;
      handles = inv.handles;
      rest = inv.rest;
      clients = inv.clients;
      places = inv.places;
      hands = hands_then;
      calls = calls_left m.in_hand m.pending m.next inv.calls s held o same;
    }

-- ---- a copying that owns nothing ends

module _ (m : Machine) (shapes : ℕ → Shape) (inv : InvariantIn shapes m) (s : CallState) (c : CopyState) (held : m.in_hand (who s) ≡ Some s) (is : driver_of s ≡ drivers.Copy c) (none : HasNone m shapes inv s c held is) where
  -- and nothing else changes
  pub copy_ends : InvariantIn shapes (record m { in_hand = put_who m.in_hand (who s) None })
  copy_ends = copy_keeps m shapes inv s c held is m.reserved None (same_call-None s) (λ z gone. absurd (cc gone)) (λ j q e found making. refl) (λ j q other. refl) inv.reserves
      (λ j r e found was owns own. absurd (none_owned m shapes inv s c held is none j r e found was owns)) (λ z gone. absurd (cc gone))
