-- A checkpoint that is made, behind the failure of a node.
use Rattle.std.proofs.Common.{◌≡◌, ◌⊎◌, ℕ, inl, inr, List, length, Option, Some, None, is_some, option_map, Bool, true, false, cond, ◌==◌, ◌||◌, refl, sym, ap, subst, ◌∙◌}
use Rattle.std.specs.Prelude.{IsSome, IsSomeAnd, slice_index}
use Rattle.ckpt_types.specs.declared.attributes.CreationAttributes.{CreationAttributes}
use Rattle.ckpt_types.specs.declared.identities.CallId.{CallId}
use Rattle.ckpt_types.specs.Asks.{Ask, MayAsk, asked}
use Rattle.ckpt_types.specs.Asks as asking
use Rattle.ckpt_types.specs.Attributes.{is_malformed}
use Rattle.ckpt_types.specs.Updates.{outcome}
use Rattle.cluster_record.specs.Calls.{IsClient}
use Rattle.cluster_record.specs.declared.calls.ActiveKind.{ActiveKind}
use Rattle.cluster_record.specs.declared.calls.UpdatePhase.{UpdatePhase}
use Rattle.cluster_record.specs.declared.calls.UpdatePhase.TheVariants.{Staging, Committing, Claiming, Claimed, Withdrawing, Resolving}
use Rattle.cluster_record.specs.declared.entries.Entry.{Entry}
use Rattle.cluster_record.specs.Failing.{goes_with_node, is_of_those, most_updated, survives}
use Rattle.cluster_record.specs.Placement.{is_all, is_collocated}
use Rattle.cluster_record.specs.RecordState.{RecordState, entry_of, complete_of, first_complete, is_active, is_live}
use Rattle.weak_marks.specs.Marks.{Marked}
use Rattle.ckpt_machine.specs.Dead.{IsDead}
use Rattle.ckpt_machine.specs.InHand.{IsInPlace, IsActiveIn, IsSyncBy, IsSettingIn, active_kind}
use Rattle.ckpt_machine.specs.Invariant.{InvariantIn, IsGoodIn, IsOfGeneration}
use Rattle.ckpt_machine.specs.Machine.{Machine, ReplicaState, who}
use Rattle.ckpt_machine.specs.Propagation.{on_node, copied}
use Rattle.ckpt_machine.specs.Shape.{Shape, IsCompleteOn, IsShapedBy, IsOwner, IsLeft, IsMarker, IsHolder, IsOnHold, IsSpread, IsActiveBy, PhaseFits, marks_at}
use Rattle.ckpt_machine.specs.Failing.{is_of_node, enters_on, failed_at, replica_left}
use Rattle.ckpt_machine.specs.After.{replica_under, replicas_under, opened_state}
use Rattle.ckpt_machine.specs.Due.{driver_of}
use Rattle.ckpt_machine.proofs.OptionLemmas.{IsSomeAnd-at, IsSomeAnd-from}
use Rattle.ckpt_machine.proofs.NodeLists.{index-other, length-slice_set}
use Rattle.ckpt_machine.proofs.MarksAt.{none_marked}
use Rattle.ckpt_machine.proofs.FailedEntries.{IsFailedEntry}
use Rattle.ckpt_machine.proofs.FailedClients.{of_node_client, of_those}
use Rattle.ckpt_machine.proofs.FailedCalls.{left_is, still, by_client, names_none, IsDead-then, abandoned_dead, in_hand_live, live_left}
use Rattle.ckpt_machine.proofs.Askers.{asker_client}
use Rattle.ckpt_machine.proofs.UpdateIn.{no_enter}
use Rattle.ckpt_machine.proofs.NodeGone.{complete_was, complete_still}
use Rattle.ckpt_machine.proofs.ActiveBy.{active_by-complete}
use Rattle.ckpt_machine.proofs.FailedActive.{active_stays, active_anew}
use Rattle.ckpt_machine.proofs.FailedShape.{shape_left, owner_left, owner_stays, marks_were, none_left, unmarked-same, generation_led, IsShapedBy-left}

-- a call to the active asks for something else than to become live
pub active_no_enter : (r : ℕ) (all weak : Bool) (ask : Ask) (kind : ActiveKind) → active_kind all weak ask ≡ Some kind → enters_on r ask ≡ false
active_no_enter r all weak (asking.Enter q version callbacks) kind is = absurd (cc is)
active_no_enter r all weak ask kind is = refl

module _ (m : Machine) (shapes : ℕ → Shape) (inv : InvariantIn shapes m) (r k : ℕ) (counts : ℕ → ℕ) (e f : Entry)
    (was : entry_of k m.cluster.entries ≡ Some e) (found : entry_of k (failed_at r m).cluster.entries ≡ Some f) (left : IsFailedEntry counts (goes_with_node m.cluster r) r e f) (kept : survives f ≡ true) (made : f.making ≡ None) where
  -- the machine behind the failure
  abbrev n : Machine
  n = failed_at r m

  -- its record
  abbrev R : RecordState
  R = n.cluster

  -- the shape before it
  abbrev z : Shape
  z = shapes k

  -- and the one behind it
  abbrev sh : Shape
  sh = shape_left R r e.active z

  -- the checkpoint is made, so it was
  spread : IsSpread m k z e
  spread = subst (IsGoodIn m k z e) (sym left.making ∙ made) (inv.entries k e was)

  -- ---- its nodes and replicas

  -- a complete node is another, and was so
  node_was : (q : ℕ) → IsCompleteOn f q → ((q == r) ≡ false) × IsCompleteOn e q
  node_was q there = complete_was e.complete r q (ap (λ cs. slice_index cs q == 0) (sym left.complete) ∙ there)

  -- another node is complete still
  node_still : (q : ℕ) → (q == r) ≡ false → IsCompleteOn e q → IsCompleteOn f q
  node_still q other there = ap (λ cs. slice_index cs q == 0) left.complete ∙ complete_still e.complete r q other there

  -- its replica is what is left of the one that it had
  replica_then : (q : ℕ) → IsCompleteOn f q → (x : ReplicaState) → m.replicas k q ≡ Some x → n.replicas k q ≡ Some (replica_left R k q x)
  replica_then q there x x_is = ap (option_map (replica_left R k q)) under
    where
      under : replicas_under m.cluster R m.replicas k q ≡ Some x
      under =
          ap (λ o. replica_under o (slice_index (complete_of (entry_of k m.cluster.entries)) q) q (m.replicas k q)) found
          ∙ ap (λ b. cond b None (cond (slice_index (complete_of (entry_of k m.cluster.entries)) q == 0) (Some (opened_state f)) (m.replicas k q))) there
          ∙ ap (λ b. cond b (Some (opened_state f)) (m.replicas k q)) (ap (λ o. slice_index (complete_of o) q == 0) was ∙ (node_was q there).1)
          ∙ x_is

  -- the active is as it was, where it was on another node
  same_active : is_active e.active r ≡ false → f.active ≡ e.active
  same_active stays = (left.led stays).0

  -- each complete node has a replica as the shape says
  replicas_then : (q : ℕ) → IsCompleteOn f q → IsSomeAnd (n.replicas k q) (IsShapedBy (is_all f.attributes) sh f.active q)
  replicas_then q there =
      let (other, before) = node_was q there in
      let (x, x_is, shaped) = IsSomeAnd-at (m.replicas k q) (IsShapedBy (is_all e.attributes) z e.active q) (spread.replicas q before) in
      IsSomeAnd-from (n.replicas k q) (IsShapedBy (is_all f.attributes) sh f.active q) (replica_left R k q x) (replica_then q there x x_is)
      (subst (λ (a : CreationAttributes). IsShapedBy (is_all a) sh f.active q (replica_left R k q x)) (sym left.attributes) (IsShapedBy-left R k r e.active z (is_all e.attributes) f.active q x other same_active shaped))

  -- one is complete
  some_then : IsSome (first_complete 0 f.complete)
  some_then = ap (λ o. is_some o || is_some (first_complete 0 f.complete)) (sym made) ∙ kept

  -- the active is by the complete nodes
  active_then : IsActiveBy (is_collocated f.attributes) (is_all f.attributes) f.complete f.active
  active_then = subst (λ (a : CreationAttributes). IsActiveBy (is_collocated a) (is_all a) f.complete f.active) (sym left.attributes) (by_test (is_active e.active r) refl)
    where
      by_test : (b : Bool) → is_active e.active r ≡ b → IsActiveBy (is_collocated e.attributes) (is_all e.attributes) f.complete f.active
      by_test true gone = subst (IsActiveBy (is_collocated e.attributes) (is_all e.attributes) f.complete) (sym (left.gone gone).0) (active_anew counts e.attributes f.complete some_then)
      by_test false stays =
          let kept_active = active_stays (is_collocated e.attributes) (is_all e.attributes) e.complete r e.active spread.active stays in
          subst (λ (p : List ℕ × Option ℕ). IsActiveBy (is_collocated e.attributes) (is_all e.attributes) p.0 p.1) (λ i. (sym left.complete i, sym (same_active stays) i)) kept_active

  -- ---- who owns slots

  -- an owner in hand is left, or dead, and so is the call whose update is staged
  owner_then : (d : CallId) → IsOwner m k z d → IsOwner n k sh d ⊎ IsLeft n sh d
  owner_then d own = by_test (is_of_node m.cluster r own.state.call.actor) refl
    where
      asks_none : enters_on r (asked own.state.op) ≡ false
      asks_none = names_none m shapes inv r own.state (inv.hands (who own.state) own.state own.in_hand).driven (no_enter (driver_of own.state) own.driver own.driver_is)

      alone : ((q : ℕ) (c : CallId) → z.owners q ≡ Some c → c ≡ own.state.call) → (q : ℕ) (c : CallId) → sh.owners q ≡ Some c → c ≡ own.state.call
      alone all q c owns = all q c (owner_left R r e.active z q c owns).1

      phase_left : (ph : UpdatePhase) → PhaseFits m z own.state own.driver ph → PhaseFits n sh own.state own.driver ph
      phase_left Staging fits = record { origin = fits.origin; update = fits.update; moment = fits.moment; undone = fits.undone; alone = alone fits.alone }
      phase_left Committing fits = record { origin = fits.origin; update = fits.update; is_done = fits.is_done; alone = alone fits.alone }
      phase_left Claiming fits = absurd fits
      phase_left Claimed fits = record { origin = IsDead-then m shapes inv r z.origin fits.origin; count = fits.count }
      phase_left Withdrawing fits = record { origin = IsDead-then m shapes inv r z.origin fits.origin; done_is = fits.done_is; alone = alone fits.alone }
      phase_left Resolving fits = record { origin = IsDead-then m shapes inv r z.origin fits.origin; done_is = fits.done_is; alone = alone fits.alone }

      origin_dead : IsDead n own.state.call → (ph : UpdatePhase) → PhaseFits m z own.state own.driver ph → IsDead n z.origin
      origin_dead dead Staging fits = subst (IsDead n) (sym fits.origin) dead
      origin_dead dead Committing fits = subst (IsDead n) (sym fits.origin) dead
      origin_dead dead Claiming fits = absurd fits
      origin_dead dead Claimed fits = IsDead-then m shapes inv r z.origin fits.origin
      origin_dead dead Withdrawing fits = IsDead-then m shapes inv r z.origin fits.origin
      origin_dead dead Resolving fits = IsDead-then m shapes inv r z.origin fits.origin

      by_test : (b : Bool) → is_of_node m.cluster r own.state.call.actor ≡ b → IsOwner n k sh d ⊎ IsLeft n sh d
      by_test false stays = inl (record {
        state = own.state;
        in_hand = still m shapes inv r (who own.state) own.state own.in_hand (by_client m shapes inv r own.state asks_none ∙ stays);
        call_is = own.call_is;
        driver = own.driver;
        driver_is = own.driver_is;
        ckpt = own.ckpt;
        phase = phase_left own.driver.phase own.phase;
      })
      by_test true goes =
          let dead = abandoned_dead m shapes inv r (who own.state) own.state own.in_hand goes in
          inr (subst (IsDead n) own.call_is dead, origin_dead dead own.driver.phase own.phase)

  -- whoever owns a slot is in hand, or dead
  owned_then : (q : ℕ) (d : CallId) → sh.owners q ≡ Some d → IsOwner n k sh d ⊎ IsLeft n sh d
  owned_then q d owns = elim (spread.owned q d (owner_left R r e.active z q d owns).1) [
    | inl own ↦ owner_then d own
    | inr dead ↦ inr (IsDead-then m shapes inv r d dead.0, IsDead-then m shapes inv r z.origin dead.1)
  ]

  -- one that is in hand was an owner in hand
  owner_was : (q : ℕ) (d : CallId) → z.owners q ≡ Some d → IsOwner n k sh d → IsOwner m k z d
  owner_was q d owns own = elim (spread.owned q d owns) [
    | inl before ↦ before
    | inr dead ↦ absurd (
        let held = (left_is m shapes inv r (who own.state) own.state own.in_hand).0 in
        let live : is_live m.cluster d ≡ true = ap (is_live m.cluster) (sym own.call_is) ∙ in_hand_live m shapes inv r (who own.state) own.state held (no_enter (driver_of own.state) own.driver own.driver_is) in
        let w : true ≡ false = sym live ∙ dead.0.gone in cc w)
  ]

  -- ---- marks and a hold

  -- the call of marks that are left is in hand still
  marker_then : (marks : Marked) → is_live R marks.call ≡ true → IsMarker m k marks → IsMarker n k marks
  marker_then marks live own =
      let hand = inv.hands (who own.state) own.state own.in_hand in
      let at : IsActiveIn m shapes own.state own.driver = subst (IsInPlace m shapes own.state) own.driver_is hand.here in
      let stays = live_left m shapes inv r own.state (ap (is_live R) own.call_is ∙ live) in
      record {
        state = own.state;
        in_hand = still m shapes inv r (who own.state) own.state own.in_hand (by_client m shapes inv r own.state (active_no_enter r own.state.kept.all own.state.kept.weak (asked own.state.op) own.driver.kind at.kind) ∙ stays);
        call_is = own.call_is;
        driver = own.driver;
        driver_is = own.driver_is;
        ckpt = own.ckpt;
        made = own.made;
        made_is = own.made_is;
        update = own.update;
        left = own.left;
      }

  -- a hold that is left stood, and is of none of those that go
  hold_was : (d : CallId) → f.hold ≡ Some d → (e.hold ≡ Some d) × (is_of_those (goes_with_node m.cluster r) (Some d) ≡ false)
  hold_was d holds = elim (is_of_those (goes_with_node m.cluster r) e.hold) as (λ b. is_of_those (goes_with_node m.cluster r) e.hold ≡ b → cond b None e.hold ≡ Some d → (e.hold ≡ Some d) × (is_of_those (goes_with_node m.cluster r) (Some d) ≡ false)) [
    | true ↦ λ is gone. absurd (cc gone)
    | false ↦ λ is held. (held, ap (is_of_those (goes_with_node m.cluster r)) (sym held) ∙ is)
  ] refl (sym left.hold ∙ holds)

  -- a copy of the active that stays is what it was
  copies_same : is_collocated e.attributes ≡ true → z.marks ≡ None → is_active e.active r ≡ false → (o : Option ℕ) → e.active ≡ o → option_map copied (on_node (n.replicas k) o) ≡ option_map copied (on_node (m.replicas k) o)
  copies_same collocated unmarked stays None active = refl
  copies_same collocated unmarked stays (Some q) active =
      let before : IsCompleteOn e q = active_by-complete (is_collocated e.attributes) (is_all e.attributes) e.complete e.active spread.active q active in
      let other : (q == r) ≡ false = ap (λ o. is_active o r) (sym active) ∙ stays in
      let (x, x_is, shaped) = IsSomeAnd-at (m.replicas k q) (IsShapedBy (is_all e.attributes) z e.active q) (spread.replicas q before) in
      let free : x.marks ≡ None = marks_none (is_all e.attributes) q x shaped in
      let generation : x.generation ≡ e.generation = (at_complete q x x_is).led active in
      ap (option_map copied) (replica_then q (node_still q other before) x x_is)
      ∙ (λ i. Some (record {
        sections = unmarked-same (λ (y : ReplicaState). y.sections) (λ x g. refl) R k q x free i;
        effects = unmarked-same (λ (y : ReplicaState). y.effects) (λ x g. refl) R k q x free i;
        generation = (generation_led R k q f x found ∙ same_generation (is_active f.active q) x generation) i;
      }))
      ∙ sym (ap (option_map copied) x_is)
    where
      marks_none : (all : Bool) (q : ℕ) (x : ReplicaState) → IsShapedBy all z e.active q x → x.marks ≡ None
      marks_none true q x is = is.unmarked
      marks_none false q x is = is.marks_are ∙ ap (λ w. marks_at e.active w q) unmarked ∙ none_marked e.active q

      at_complete : (q : ℕ) (x : ReplicaState) → m.replicas k q ≡ Some x → IsOfGeneration e q x.generation
      at_complete q x x_is = (subst (λ o. IsSomeAnd o (λ (e : Entry). IsCompleteOn e q × IsOfGeneration e q x.generation)) was (inv.replicas k q x x_is)).1

      same_generation : (b : Bool) (x : ReplicaState) → x.generation ≡ e.generation → cond b f.generation x.generation ≡ x.generation
      same_generation true x same = (left.led stays).1 ∙ sym same
      same_generation false x same = refl

  -- the holder is in hand still, and has what the active has
  holder_then : (d : CallId) → f.hold ≡ Some d → IsOnHold n k sh f d
  holder_then d holds =
      let (held, others) = hold_was d holds in
      let on = spread.held d held in
      let own = on.holder in
      let hand = inv.hands (who own.state) own.state own.in_hand in
      let here : IsSyncBy m own.state own.driver own.driver.kind = subst (IsInPlace m shapes own.state) own.driver_is hand.here in
      let at : IsSettingIn m own.state own.driver own.local = subst (IsSyncBy m own.state own.driver) own.kind here in
      let client : IsClient own.state.call.actor = asker_client own.state.call.actor (asking.SetActive at.place) (subst (MayAsk own.state.call.actor) at.asks hand.asker) (λ copies. copies) in
      let stays : is_of_node m.cluster r own.state.call.actor ≡ false = of_node_client m.cluster r own.state.call.actor client ∙ sym (of_those (goes_with_node m.cluster r) own.state.call client) ∙ ap (λ c. is_of_those (goes_with_node m.cluster r) (Some c)) own.call_is ∙ others in
      record {
        collocated = ap is_collocated left.attributes ∙ on.collocated;
        unmarked = none_left R r e.active z on.unmarked;
        holder = record {
          state = own.state;
          in_hand = still m shapes inv r (who own.state) own.state own.in_hand (by_client m shapes inv r own.state (ap (enters_on r) at.asks) ∙ stays);
          call_is = own.call_is;
          driver = own.driver;
          driver_is = own.driver_is;
          local = own.local;
          kind = own.kind;
          ckpt = own.ckpt;
          some = own.some;
          copies = λ led. by_test on own led (is_active e.active r) refl;
        };
      }
    where
      by_test : (on : IsOnHold m k z e d) (own : IsHolder m k e.active d) → IsSome f.active → (b : Bool) → is_active e.active r ≡ b → own.state.snapshot ≡ option_map copied (on_node (n.replicas k) f.active)
      by_test on own led true gone = absurd (let none : f.active ≡ None = (left.gone gone).0 ∙ ap (λ b. cond b None (cond (is_all e.attributes) (first_complete 0 f.complete) (most_updated counts 0 f.complete))) on.collocated in let w : false ≡ true = ap is_some (sym none) ∙ led in cc w)
      by_test on own led false stays =
          own.copies (ap is_some (sym (same_active stays)) ∙ led)
          ∙ sym (copies_same on.collocated on.unmarked stays e.active refl)
          ∙ ap (λ o. option_map copied (on_node (n.replicas k) o)) (sym (same_active stays))

  -- ---- the whole

  -- the checkpoint is spread behind the failure
  pub spread_then : IsSpread n k sh f
  spread_then = record {
    well_formed = ap is_malformed left.attributes ∙ spread.well_formed;
    nodes = ap length left.complete ∙ length-slice_set e.complete r 0 ∙ spread.nodes;
    some = some_then;
    up = λ q there. (let (other, before) = node_was q there in index-other m.cluster.up r q 0 other ∙ spread.up q before ∙ sym (ap (λ cs. slice_index cs q) left.complete ∙ index-other e.complete r q 0 other));
    active = active_then;
    replicas = replicas_then;
    fits = λ q d owns. ap (λ a. outcome a z.update z.moment z.sections) left.attributes ∙ spread.fits q d (owner_left R r e.active z q d owns).1;
    all = λ q d owns. ap is_all left.attributes ∙ spread.all q d (owner_left R r e.active z q d owns).1;
    complete = λ q d owns. (let (other, before) = owner_left R r e.active z q d owns in node_still q other (spread.complete q d before));
    lowest = λ q p d below there owns. (
        let (other, before) = node_was q there in
        ap is_some (owner_stays R r e.active z q other) ∙ spread.lowest q p d below before (owner_left R r e.active z p d owns).1);
    first = λ q p d below there owns own. (
        let (other, before) = node_was q there in
        let owns_p = (owner_left R r e.active z p d owns).1 in
        owner_stays R r e.active z q other ∙ spread.first q p d below before owns_p (owner_was p d owns_p own));
    owned = owned_then;
    led = λ marks is. (let (stays, stood, live) = marks_were R r e.active z marks is in ap is_some (same_active stays) ∙ spread.led marks stood);
    marked = λ marks is. (let (stays, stood, live) = marks_were R r e.active z marks is in marker_then marks live (spread.marked marks stood));
    held = holder_then;
  }
