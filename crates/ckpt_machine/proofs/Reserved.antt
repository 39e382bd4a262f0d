-- A step that changes the reservations of the checkpoint that a call is making, and how far this call is: what holds of every other call and of every checkpoint stays.
use Rattle.std.proofs.Common.{◌≡◌, ◌≢◌, ℕ, inl, inr, Option, Some, None, Bool, true, false, ◌==◌, refl, sym, ap, subst, ◌∙◌}
use Rattle.std.proofs.lemmas.Option.{same_Some}
use Rattle.std.specs.Prelude.{is_some, IsSomeAnd}
use Rattle.std.proofs.lemmas.Bool.{eqb-true}
use Rattle.ckpt_types.specs.declared.identities.CallId.{CallId}
use Rattle.ckpt_types.specs.declared.identities.Who.{Who}
use Rattle.cluster_record.specs.declared.calls.Making.{Making}
use Rattle.cluster_record.specs.declared.entries.Entry.{Entry}
use Rattle.cluster_record.specs.DueOpen.{OpenState}
use Rattle.weak_marks.specs.Marks.{Marked}
use Rattle.cluster_record.specs.RecordState.{entry_of}
use Rattle.ckpt_machine.specs.Drivers as drivers
use Rattle.ckpt_machine.specs.Machine.{Machine, CallState, who}
use Rattle.ckpt_machine.specs.Due.{IsDriven, driver_of}
use Rattle.ckpt_machine.specs.Shape.{Shape, IsOwner, IsMarker, IsHolder}
use Rattle.ckpt_machine.specs.Dead.{IsDead}
use Rattle.ckpt_machine.specs.InHand.{IsMakingIn, IsInHand}
use Rattle.ckpt_machine.specs.Entries.{WasMade}
use Rattle.ckpt_machine.specs.Invariant.{IsMaker, IsGoodIn, IsReservedFor, InvariantIn}
use Rattle.ckpt_types.specs.OpWord.{word_of_op, stepped_as}
use Rattle.ckpt_machine.proofs.CallsKept.{apart_from, same_call-Some, calls_left}
use Rattle.ckpt_machine.proofs.Lives.{LivesOn, lives_on-one, enters-one, dead_on}
use Rattle.ckpt_machine.proofs.LaterIncarnations.{incarnations_stay}
use Rattle.ckpt_machine.proofs.OtherCalls.{making_still, LooksAlike, LooksLater-refl, LiesUnder-refl, IsHolder-alike, IsInHand-alike, owned_alike, owner_before, IsMarker-alike, IsMaker-alike}
use Rattle.ckpt_machine.proofs.OwnMaking.{making_at, owner_apart, marker_apart, holder_apart, maker_same, not_own}
use Rattle.ckpt_machine.proofs.OptionLemmas.{IsSomeAnd-at, IsSomeAnd-from, IfSome-at}
use Rattle.ckpt_machine.specs.Whose.{put_who, same_who}
use Rattle.ckpt_machine.proofs.Whose.{same_who-true, one_state, put_who-cases, put_who-other, put_who-here}

module _ (m : Machine) (shapes : ℕ → Shape) (inv : InvariantIn shapes m) (s : CallState) (o : OpenState) (making : Making) (held : m.in_hand (who s) ≡ Some s) (is : driver_of s ≡ drivers.Open o) (makes : o.making ≡ Some making)
    (g : ℕ → ℕ → Option ℕ) (elsewhere : (j q : ℕ) → (j == making.ckpt) ≡ false → g j q ≡ m.reserved j q)
    (w : CallState) (call_is : w.call ≡ s.call) (op_is : w.op ≡ s.op) (v : OpenState) (driver_is : driver_of w ≡ drivers.Open v) (then_making : Making) (then_makes : v.making ≡ Some then_making) (same_ckpt : then_making.ckpt ≡ making.ckpt) where
  -- the state with these reservations, and with this left of the call
  abbrev then_machine : Machine
  then_machine = record m { reserved = g; in_hand = put_who m.in_hand (who s) (Some w) }

  -- it is in hand under the same name
  name_is : who w ≡ who s
  name_is = λ i. stepped_as (call_is i) (word_of_op (op_is i))

  -- ---- checkpoints

  -- a slot has its owner still
  owner_stays : (j : ℕ) (sh : Shape) (d : CallId) (own : IsOwner m j sh d) → then_machine.in_hand (who own.state) ≡ m.in_hand (who own.state)
  owner_stays j sh d own = put_who-other m.in_hand (who s) (Some w) (who own.state) (owner_apart m s o held is j sh d own)

  -- and marks their call
  IsMarker-then : (j : ℕ) (marks : Marked) → IsMarker m j marks → IsMarker then_machine j marks
  IsMarker-then j marks own = IsMarker-alike m then_machine j marks own (put_who-other m.in_hand (who s) (Some w) (who own.state) (marker_apart m s o held is j marks own))

  -- and a hold its call
  IsHolder-then : (j : ℕ) (active : Option ℕ) (d : CallId) → IsHolder m j active d → IsHolder then_machine j active d
  IsHolder-then j active d own = IsHolder-alike m then_machine j active d own (put_who-other m.in_hand (who s) (Some w) (who own.state) (holder_apart m s o held is j active d own)) refl

  -- one in the making is by another call, or is this one
  IsMaker-then : (j : ℕ) (d : CallId) → IsMaker m j d → IsMaker then_machine j d
  IsMaker-then j d own = by_test (same_who (who own.state) (who s)) refl
    where
      by_test : (b : Bool) → same_who (who own.state) (who s) ≡ b → IsMaker then_machine j d
      by_test false other = IsMaker-alike m then_machine j d own (put_who-other m.in_hand (who s) (Some w) (who own.state) other)
      by_test true same =
          let name : who own.state ≡ who s = same_who-true (who own.state) (who s) same in
          let state : own.state ≡ s = one_state m.in_hand (who own.state) (who s) own.state s own.in_hand held name in
          record {
            state = w;
            in_hand = ap (put_who m.in_hand (who s) (Some w)) name_is ∙ put_who-here m.in_hand (who s) (Some w);
            call_is = call_is ∙ ap (λ (x : CallState). x.call) (sym state) ∙ own.call_is;
            driver = v;
            driver_is = driver_is;
            making = then_making;
            making_is = then_makes;
            ckpt = same_ckpt ∙ sym (maker_same m s o held is making makes j d own name);
          }

  -- a checkpoint is as it was
  IsGoodIn-then : LivesOn m then_machine → (j : ℕ) (sh : Shape) (e : Entry) (maker : Option CallId) → IsGoodIn m j sh e maker → IsGoodIn then_machine j sh e maker
  IsGoodIn-then lives j sh e None good = record {
    well_formed = good.well_formed;
    nodes = good.nodes;
    some = good.some;
    up = good.up;
    active = good.active;
    replicas = good.replicas;
    fits = good.fits;
    all = good.all;
    complete = good.complete;
    lowest = good.lowest;
    first = λ q r d below there owns own. good.first q r d below there owns (owner_before m then_machine j lives sh d (good.owned r d owns) own);
    owned = λ r d owns. owned_alike m then_machine j lives sh d (owner_stays j sh d) (good.owned r d owns);
    led = good.led;
    marked = λ marks is. IsMarker-then j marks (good.marked marks is);
    held = λ d is. (let own = good.held d is in record { collocated = own.collocated; unmarked = own.unmarked; holder = IsHolder-then j e.active d own.holder });
  }
  IsGoodIn-then lives j sh e (Some d) good = (good.0, IsMaker-then j d good.1)

  -- ---- where the calls of others are

  -- another call makes what it made
  making_then : (z : CallState) → z.call ≢ s.call → (x : Making) → IsMakingIn m z x → IsMakingIn then_machine z x
  making_then z other x at = record { there = at.there; declares = at.declares; nodes = at.nodes; reserved = λ r had. elsewhere x.ckpt r (not_own m shapes inv s o making held is makes z other x at) ∙ at.reserved r had; only = λ r none. elsewhere x.ckpt r (not_own m shapes inv s o making held is makes z other x at) ∙ at.only r none; within = λ r some. at.within r (ap is_some (sym (elsewhere x.ckpt r (not_own m shapes inv s o making held is makes z other x at))) ∙ some); no_later = at.no_later }

  -- what was made is another checkpoint
  not_made : (k : ℕ) → WasMade m.cluster k → (k == making.ckpt) ≡ false
  not_made k was = by_test (k == making.ckpt) refl
    where
      by_test : (b : Bool) → (k == making.ckpt) ≡ b → (k == making.ckpt) ≡ false
      by_test false other = other
      by_test true same =
          let (e, found, by) = IsSomeAnd-at (entry_of making.ckpt m.cluster.entries) (λ e. e.making ≡ Some s.call) (making_at m shapes inv s o making held is makes).there in
          let made : e.making ≡ None = IfSome-at (entry_of k m.cluster.entries) (λ (e : Entry). e.making ≡ None) was.made e (ap (λ i. entry_of i m.cluster.entries) (eqb-true k making.ckpt same) ∙ found) in
          absurd (let w : None ≡ Some s.call = sym made ∙ by in cc w)

  -- so it sees what it saw
  looks_then : ((d : CallId) → IsDead m d → IsDead then_machine d) → (z : CallState) → z.call ≢ s.call → LooksAlike m then_machine shapes shapes z
  looks_then dead z other = record {
    up = λ r up. up;
    incarnations = incarnations_stay m.cluster m.cluster refl refl;
    lives = λ client. refl;
    node = λ r own. refl;
    home = refl;
    handle = λ there. there;
    making = λ o at. making_still m then_machine z o (making_then z other) at;
    made = λ k was. was;
    later = λ k was e found. (e, found, LooksLater-refl m.cluster.up z (shapes k) e);
    reserved = λ k r was own f found free. elsewhere k r (not_made k was);
    owners = λ k was r. refl;
    marks = λ k was. refl;
    under = λ k was e found all. LiesUnder-refl (shapes k);
    dead = λ k f was found. dead;
    done = λ k was done. done;
  }

  -- ---- the whole

  -- what is reserved then is for a checkpoint that is in the making: this one, or one for which it was
  there_then : (j q n : ℕ) → g j q ≡ Some n → IsSomeAnd (entry_of j m.cluster.entries) (IsReservedFor m.cluster q n)
  there_then j q n reserved = by_test (j == making.ckpt) refl
    where
      by_test : (b : Bool) → (j == making.ckpt) ≡ b → IsSomeAnd (entry_of j m.cluster.entries) (IsReservedFor m.cluster q n)
      by_test false other = inv.reserves j q n (sym (elsewhere j q other) ∙ reserved)
      by_test true same =
          let (e, found, by) = IsSomeAnd-at (entry_of making.ckpt m.cluster.entries) (λ e. e.making ≡ Some s.call) (making_at m shapes inv s o making held is makes).there in
          IsSomeAnd-from (entry_of j m.cluster.entries) (IsReservedFor m.cluster q n) e (ap (λ k. entry_of k m.cluster.entries) (eqb-true j making.ckpt same) ∙ found) (inl (ap (λ o. is_some o) by))

  -- the invariant holds after it, where it holds of the call
  pub reserved_keeps : IsInHand then_machine shapes (who s) w → InvariantIn shapes then_machine
  reserved_keeps own = record {
    up = inv.up;
    first_up = inv.first_up;
    incarnations = inv.incarnations;
    none_live = inv.none_live;
    rises = inv.rises;
    up_to = inv.up_to;
    few = inv.few;
    swept = inv.swept;
    entries = λ j e found. IsGoodIn-then lives j (shapes j) e e.making (inv.entries j e found);
    replicas = inv.replicas;
    reserves = there_then;
    handles = inv.handles;
    rest = inv.rest;
    clients = inv.clients;
    places = inv.places;
    hands = hands_then;
    calls = calls_left m.in_hand m.pending m.next inv.calls s held (Some w) (same_call-Some s w call_is op_is);
  }
    where
      dead : (d : CallId) → IsDead m d → IsDead then_machine d
      dead = dead_on m then_machine (λ d. refl) refl (enters-one m then_machine s held (inv.hands (who s) s held).driven (Some w) (same_call-Some s w call_is op_is) (λ z is. subst IsDriven (same_Some w z is) own.driven) (λ a. refl))

      hands_then : (a : Who) (z : CallState) → put_who m.in_hand (who s) (Some w) a ≡ Some z → IsInHand then_machine shapes a z
      hands_then a z there = elim (put_who-cases m.in_hand (who s) (Some w) a z there) [
        | inl here ↦ subst (λ b. IsInHand then_machine shapes b z) (sym here.0) (subst (IsInHand then_machine shapes (who s)) (same_Some w z here.1) own)
        | inr other ↦ (let was = inv.hands a z other.1 in IsInHand-alike m then_machine shapes shapes z (looks_then dead z (apart_from m.in_hand m.pending m.next inv.calls s held a z other.1 other.0)) a (λ live. live) was.number was)
      ]

      lives : LivesOn m then_machine
      lives = lives_on-one m then_machine shapes shapes inv (λ d. refl) refl refl hands_then s held (Some w) (same_call-Some s w call_is op_is) (λ a. refl)
