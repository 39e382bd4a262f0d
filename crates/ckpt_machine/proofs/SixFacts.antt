-- The six facts, wherever the invariant holds.
use Rattle.std.proofs.Common.{◌≡◌, ◌⊎◌, ℕ, ◌<◌, inl, inr, List, [], ◌∷◌, ◌++◌, length, Option, Some, None, is_some, true, false, cond, refl, sym, ap, subst, ◌∙◌}
use Rattle.std.specs.Prelude.{IsSome, slice_index, Ok}
use Rattle.std.proofs.lemmas.Option.{same_Some}
use Rattle.ckpt_types.specs.declared.identities.CallId.{CallId}
use Rattle.ckpt_types.specs.Asks.{update_of}
use Rattle.ckpt_types.specs.Sections.{Section}
use Rattle.ckpt_types.specs.Updates.{outcome}
use Rattle.cluster_record.specs.declared.calls.UpdatePhase.{UpdatePhase}
use Rattle.cluster_record.specs.declared.calls.UpdatePhase.TheVariants.{Staging, Committing, Claiming, Claimed, Withdrawing, Resolving}
use Rattle.cluster_record.specs.declared.entries.Entry.{Entry}
use Rattle.cluster_record.specs.DueUpdate.{UpdateState}
use Rattle.cluster_record.specs.Placement.{is_all}
use Rattle.cluster_record.specs.RecordState.{entry_of, is_live}
use Rattle.cluster_record.specs.StepDone.{has}
use Rattle.ckpt_machine.specs.After.{effect_of}
use Rattle.ckpt_machine.specs.Dead.{IsDead}
use Rattle.ckpt_machine.specs.Drivers.{update_in}
use Rattle.ckpt_machine.specs.Due.{driver_of}
use Rattle.ckpt_machine.specs.GuardTerms.{owns_slot}
use Rattle.ckpt_machine.specs.InHand.{IsUpdateIn, IsDoneIn, PhaseKeeps}
use Rattle.ckpt_machine.specs.Invariant.{InvariantIn, Invariant, IsGoodIn}
use Rattle.ckpt_machine.specs.Machine.{Machine, Applied, Staged, ReplicaState, CallState, who}
use Rattle.ckpt_machine.specs.Owned.{HasUpdate}
use Rattle.ckpt_machine.specs.Shape.{Shape, IsShaped, IsShapedBy, AreOwn, IsStaging, IsClaimed, IsSettling, is_owner, IsOwner, IsSpread, PhaseFits, slot_by}
use Rattle.ckpt_machine.specs.SixFacts.{Has, HasSlot, OwnsAt, LacksAt, IsAt, SixFacts, GivesSixFacts}
use Rattle.ckpt_machine.proofs.AllOrNone.{all_or_none}
use Rattle.ckpt_machine.proofs.NodeLists.{trichotomy}
use Rattle.ckpt_machine.proofs.OptionLemmas.{IsSomeAnd-at}
use Rattle.ckpt_machine.proofs.Owning.{is_owner-here}
use Rattle.ckpt_machine.proofs.UpdateIn.{no_enter, update_there}
use Rattle.ckpt_machine.proofs.Stage.{effects-undone}

module _ (m : Machine) (invariant : Invariant m) (k : ℕ) (e : Entry) (found : entry_of k m.cluster.entries ≡ Some e) (made : e.making ≡ None) (all : is_all e.attributes ≡ true) where
  abbrev shapes : ℕ → Shape
  shapes = invariant.shapes

  abbrev inv : InvariantIn shapes m
  inv = invariant.holds

  abbrev z : Shape
  z = invariant.shapes k

  was : IsSpread m k z e
  was = subst (IsGoodIn m k z e) made (inv.entries k e found)

  -- a replica is as the shape says
  shaped : (r : ℕ) (x : ReplicaState) → Has m k e r x → IsShaped z (z.owners r) x
  shaped r x has =
      let (y, y_is, by) = IsSomeAnd-at (m.replicas k r) (IsShapedBy (is_all e.attributes) z e.active r) (was.replicas r has.complete) in
      subst (IsShaped z (z.owners r)) (same_Some y x (sym y_is ∙ has.there)) (subst (λ b. IsShapedBy b z e.active r y) all by)

  owns_by : (call : CallId) (o : Option CallId) → owns_slot call (slot_by z o) ≡ is_owner call o
  owns_by call None = refl
  owns_by call (Some d) = refl

  owns_is : (call : CallId) (r : ℕ) (x : ReplicaState) → Has m k e r x → owns_slot call x.slot ≡ is_owner call (z.owners r)
  owns_is call r x has = ap (owns_slot call) (shaped r x has).slot ∙ owns_by call (z.owners r)

  -- a slot is of its owner, and of the staged update
  abbrev OfShape : ℕ → Staged → Type 0
  OfShape r slot = (z.owners r ≡ Some slot.owner) × (slot.origin ≡ z.origin) × (slot.update ≡ z.update) × (slot.moment ≡ z.moment)

  slot_is : (r : ℕ) (x : ReplicaState) (slot : Staged) → HasSlot m k e r x slot → OfShape r slot
  slot_is r x slot at = by_owner (z.owners r) refl (sym at.slot_is ∙ (shaped r x at.has).slot)
    where
      by_owner : (o : Option CallId) → z.owners r ≡ o → Some slot ≡ slot_by z o → OfShape r slot
      by_owner None owns same = absurd (cc same)
      by_owner (Some d) owns same =
          let it : slot ≡ record { owner = d; origin = z.origin; update = z.update; moment = z.moment } = same_Some slot (record { owner = d; origin = z.origin; update = z.update; moment = z.moment }) same in
          (owns ∙ ap (λ (y : Staged). Some y.owner) (sym it), ap (λ (y : Staged). y.origin) it, ap (λ (y : Staged). y.update) it, ap (λ (y : Staged). y.moment) it)

  some_slot : (r : ℕ) (x : ReplicaState) → Has m k e r x → IsSome x.slot → (d : CallId) × (z.owners r ≡ Some d)
  some_slot r x has some = by_owner (z.owners r) refl (ap is_some (sym (shaped r x has).slot) ∙ some)
    where
      by_owner : (o : Option CallId) → z.owners r ≡ o → is_some (slot_by z o) ≡ true → (d : CallId) × (z.owners r ≡ Some d)
      by_owner None owns some = absurd (cc some)
      by_owner (Some d) owns some = (d, owns)

  some_there : (r : ℕ) (x : ReplicaState) → Has m k e r x → IsSome (z.owners r) → IsSome x.slot
  some_there r x has some = ap is_some (shaped r x has).slot ∙ by_owner (z.owners r) some
    where
      by_owner : (o : Option CallId) → is_some o ≡ true → is_some (slot_by z o) ≡ true
      by_owner None some = absurd (cc some)
      by_owner (Some d) some = refl

  -- ---- calls in hand

  module _ (s : CallState) (u : UpdateState) (here : IsAt m k s u) where
    own_name : m.in_hand (who s) ≡ Some s
    own_name = ap m.in_hand (inv.hands here.name s here.in_hand).whose ∙ here.in_hand

    live : is_live m.cluster s.call ≡ true
    live = (inv.hands here.name s here.in_hand).live (no_enter (driver_of s) u here.driver)

    found_at : entry_of u.ckpt m.cluster.entries ≡ Some e
    found_at = ap (λ j. entry_of j m.cluster.entries) here.ckpt ∙ found

    at : IsUpdateIn m shapes s u
    at = update_there m shapes s (driver_of s) u (inv.hands here.name s here.in_hand).here here.driver e found_at all

    mine : (r : ℕ) (x : ReplicaState) → Has m k e r x → owns_slot s.call x.slot ≡ has (slice_index e.complete r) (slice_index u.owned r)
    mine r x there = owns_is s.call r x there ∙ sym (at.owns e found_at r there.complete ∙ ap (λ j. is_owner s.call ((shapes j).owners r)) here.ckpt)

    -- its phase fits where it owns a slot
    fits : (r : ℕ) → z.owners r ≡ Some s.call → PhaseFits m z s u u.phase
    fits r owns = elim (was.owned r s.call owns) [
      | inl own ↦ (
          let state : own.state ≡ s = same_Some own.state s (sym own.in_hand ∙ ap m.in_hand (inv.calls.one_name (who own.state) (who s) own.state s own.in_hand own_name own.call_is) ∙ own_name) in
          let driver : own.driver ≡ u = same_Some own.driver u (sym own.driver_is ∙ ap (λ y. update_in (driver_of y)) state ∙ here.driver) in
          subst (λ v. PhaseFits m z s v v.phase) driver (subst (λ y. PhaseFits m z y own.driver own.driver.phase) state own.phase))
      | inr dead ↦ absurd (let w : true ≡ false = sym live ∙ dead.0.gone in cc w)
    ]

    owner_at : (r : ℕ) (x : ReplicaState) (slot : Staged) → OwnsAt m k e s.call r x slot → z.owners r ≡ Some s.call
    owner_at r x slot own = (slot_is r x slot own.at).0 ∙ ap Some own.owner

    moment : (r : ℕ) (x : ReplicaState) (slot : Staged) → u.phase ≡ Staging → OwnsAt m k e s.call r x slot → slot.moment ≡ u.moment
    moment r x slot phase own = let it : IsStaging z s u = subst (PhaseFits m z s u) phase (fits r (owner_at r x slot own)) in (slot_is r x slot own.at).3 ∙ it.moment

    count : (r : ℕ) (x : ReplicaState) (slot : Staged) → u.phase ≡ Claimed → OwnsAt m k e s.call r x slot → length x.effects ≡ u.count
    count r x slot phase own =
        let it : IsClaimed m z u = subst (PhaseFits m z s u) phase (fits r (owner_at r x slot own)) in
        let at_r : IsShaped z (Some s.call) x = subst (λ o. IsShaped z o x) (owner_at r x slot own) (shaped r x own.at.has) in
        ap length at_r.effects ∙ sym it.count

    keeps : PhaseKeeps m z s u u.phase
    keeps = subst (λ j. PhaseKeeps m (shapes j) s u u.phase) here.ckpt (at.keeps e found_at)

    kept : (u.phase ≡ Claiming) ⊎ (u.phase ≡ Claimed) → is_live m.cluster u.owner ≡ false
    kept (inl phase) = let it : IsDead m u.owner = subst (PhaseKeeps m z s u) phase keeps in it.gone
    kept (inr phase) = let it : IsDead m u.owner = subst (PhaseKeeps m z s u) phase keeps in it.gone

    -- all slots are its own, where it settles
    alone : (r : ℕ) → z.owners r ≡ Some s.call → (u.phase ≡ Withdrawing) ⊎ (u.phase ≡ Resolving) → AreOwn z s.call
    alone r owns (inl phase) = let it : IsSettling m z s false = subst (PhaseFits m z s u) phase (fits r owns) in it.alone
    alone r owns (inr phase) = let it : IsSettling m z s true = subst (PhaseFits m z s u) phase (fits r owns) in it.alone

    committed : (r : ℕ) (x : ReplicaState) → u.phase ≡ Committing → LacksAt m k e s.call r x → HasUpdate s.call (update_of s.op) x.effects
    committed r x phase there = by_owner (z.owners r) refl (shaped r x there.has)
      where
        it : IsDoneIn z s
        it = subst (PhaseKeeps m z s u) phase keeps

        by_owner : (o : Option CallId) → z.owners r ≡ o → IsShaped z o x → HasUpdate s.call (update_of s.op) x.effects
        by_owner None owns by = subst (HasUpdate s.call (update_of s.op)) (sym by.effects) it.free
        by_owner (Some d) owns by = subst (HasUpdate s.call (update_of s.op)) (sym by.effects) (it.under r d owns (λ same. let w : true ≡ false = sym (is_owner-here s.call (z.owners r) (owns ∙ ap Some same)) ∙ sym (owns_is s.call r x there.has) ∙ there.lacks in cc w))

    -- a replica without a slot of it has none, where all are its own
    without : AreOwn z s.call → (r : ℕ) (x : ReplicaState) → LacksAt m k e s.call r x → IsShaped z None x
    without own r x there = by_owner (z.owners r) refl (shaped r x there.has)
      where
        by_owner : (o : Option CallId) → z.owners r ≡ o → IsShaped z o x → IsShaped z None x
        by_owner None owns by = by
        by_owner (Some d) owns by = absurd (let w : true ≡ false = sym (is_owner-here s.call (z.owners r) (owns ∙ ap Some (own r d owns))) ∙ sym (owns_is s.call r x there.has) ∙ there.lacks in cc w)

    resolved : (q r : ℕ) (x y : ReplicaState) (slot : Staged) → u.phase ≡ Resolving → OwnsAt m k e s.call q x slot → LacksAt m k e s.call r y → y.effects ≡ x.effects ++ effect_of slot ∷ []
    resolved q r x y slot phase own there =
        let owns = owner_at q x slot own in
        let it : IsSettling m z s true = subst (PhaseFits m z s u) phase (fits q owns) in
        let (owner, origin, update, moment) = slot_is q x slot own.at in
        let under : IsShaped z (Some s.call) x = subst (λ o. IsShaped z o x) owns (shaped q x own.at.has) in
        (without it.alone r y there).effects
        ∙ ap (λ b. cond b (z.effects ++ Applied z.origin z.update z.moment ∷ []) z.effects) it.done_is
        ∙ (λ i. sym under.effects i ++ Applied (sym origin i) (sym update i) (sym moment i) ∷ [])

    undone : (q r : ℕ) (x y : ReplicaState) (slot : Staged) → (u.phase ≡ Staging) ⊎ (u.phase ≡ Withdrawing) → OwnsAt m k e s.call q x slot → LacksAt m k e s.call r y → y.effects ≡ x.effects
    undone q r x y slot phase own there =
        let owns = owner_at q x slot own in
        let under : IsShaped z (Some s.call) x = subst (λ o. IsShaped z o x) owns (shaped q x own.at.has) in
        let (own_all, not_done) = by_phase phase (fits q owns) in
        (without own_all r y there).effects ∙ effects-undone z None not_done ∙ sym under.effects
      where
        by_phase : (u.phase ≡ Staging) ⊎ (u.phase ≡ Withdrawing) → PhaseFits m z s u u.phase → AreOwn z s.call × (z.done ≡ false)
        by_phase (inl phase) fits = let it : IsStaging z s u = subst (PhaseFits m z s u) phase fits in (it.alone, it.undone)
        by_phase (inr phase) fits = let it : IsSettling m z s false = subst (PhaseFits m z s u) phase fits in (it.alone, it.done_is)

  -- an owner that is live is in hand
  owner_live : (r : ℕ) (d : CallId) → z.owners r ≡ Some d → is_live m.cluster d ≡ true → IsOwner m k z d
  owner_live r d owns live = elim (was.owned r d owns) [
    | inl own ↦ own
    | inr dead ↦ absurd (let w : true ≡ false = sym live ∙ dead.0.gone in cc w)
  ]

  -- a live origin owns all slots
  origin_owns : (q r : ℕ) (c d : CallId) → z.owners q ≡ Some c → is_live m.cluster z.origin ≡ true → z.owners r ≡ Some d → d ≡ z.origin
  origin_owns q r c d owns_q live owns_r = elim (was.owned r d owns_r) [
    | inl own ↦ by_phase own.driver.phase own own.phase
    | inr dead ↦ absurd (let w : true ≡ false = sym live ∙ dead.1.gone in cc w)
  ]
    where
      by_phase : (ph : UpdatePhase) (own : IsOwner m k z d) → PhaseFits m z own.state own.driver ph → d ≡ z.origin
      by_phase Staging own fits = sym own.call_is ∙ sym fits.origin
      by_phase Committing own fits = sym own.call_is ∙ sym fits.origin
      by_phase Claiming own fits = absurd fits
      by_phase Claimed own fits = absurd (let w : true ≡ false = sym live ∙ fits.origin.gone in cc w)
      by_phase Withdrawing own fits = absurd (let w : true ≡ false = sym live ∙ fits.origin.gone in cc w)
      by_phase Resolving own fits = absurd (let w : true ≡ false = sym live ∙ fits.origin.gone in cc w)

  -- ---- the facts

  -- what a slot has staged has an outcome there
  has_outcome : (r : ℕ) (x : ReplicaState) (slot : Staged) → HasSlot m k e r x slot → (sections : List Section) × (outcome e.attributes slot.update slot.moment x.sections ≡ Ok sections)
  has_outcome r x slot at =
      let (owner, origin, update, moment) = slot_is r x slot at in
      let under : IsShaped z (Some slot.owner) x = subst (λ o. IsShaped z o x) owner (shaped r x at.has) in
      (z.outcome, (λ i. outcome e.attributes (update i) (moment i) (under.sections i)) ∙ was.fits r slot.owner owner)

  -- below a slot of a live call all are its own
  below_own : (q r : ℕ) (x y : ReplicaState) (call : CallId) (slot : Staged) → is_live m.cluster call ≡ true → q < r → Has m k e q x → OwnsAt m k e call r y slot → z.owners q ≡ Some call
  below_own q r x y call slot live below there own =
      let owns = (slot_is r y slot own.at).0 ∙ ap Some own.owner in
      was.first q r call below there.complete owns (owner_live r call owns live)

  only_one : (c d : CallId) (q r : ℕ) (x y : ReplicaState) (slot other : Staged) → is_live m.cluster c ≡ true → is_live m.cluster d ≡ true → OwnsAt m k e c q x slot → OwnsAt m k e d r y other → c ≡ d
  only_one c d q r x y slot other live_c live_d own_c own_d =
      let owns_c = (slot_is q x slot own_c.at).0 ∙ ap Some own_c.owner in
      let owns_d = (slot_is r y other own_d.at).0 ∙ ap Some own_d.owner in
      elim (trichotomy q r) [
        | inl below ↦ same_Some c d (sym owns_c ∙ below_own q r x y d other live_d below own_c.at.has own_d)
        | inr (inl same) ↦ same_Some c d (sym owns_c ∙ ap z.owners same ∙ owns_d)
        | inr (inr above) ↦ same_Some c d (sym (below_own r q y x c slot live_c above own_d.at.has own_c) ∙ owns_d)
      ]

  facts_at : SixFacts m k e
  facts_at = record {
    slots_come_first = λ q r x y below has_q has_r some. (let (d, owns) = some_slot r y has_r some in some_there q x has_q (was.lowest q r d below has_q.complete owns));
    all_or_none = record {
      all_or_none = all_or_none m invariant k e found made all;
      outcomes = has_outcome;
    };
    own_slots = record {
      own = λ s u r x here there. mine s u here r x there;
      moment = λ s u r x slot here phase own. moment s u here r x slot phase own;
      count = λ s u r x slot here phase own. count s u here r x slot phase own;
      kept = λ s u here phase. kept s u here phase;
      one = only_one;
      lowest = λ call q r x y slot live below there own. owns_is call q x there ∙ is_owner-here call (z.owners q) (below_own q r x y call slot live below there own);
    };
    all_slots = record {
      origin = λ q r x y slot other at_q live at_r. (
          let (owner_q, origin_q, update_q, moment_q) = slot_is q x slot at_q in
          let (owner_r, origin_r, update_r, moment_r) = slot_is r y other at_r in
          origin_owns q r slot.owner other.owner owner_q (ap (is_live m.cluster) (sym origin_q) ∙ live) owner_r ∙ sym origin_q);
      settles = λ s u q r x y slot other here phase own at_r. alone s u here q (owner_at s u here q x slot own) phase r other.owner (slot_is r y other at_r).0;
    };
    have_update = record {
      committed = λ s u r x here phase there. committed s u here r x phase there;
      resolved = λ s u q r x y slot here phase own there. resolved s u here q r x y slot phase own there;
      undone = λ s u q r x y slot here phase own there. undone s u here q r x y slot phase own there;
    };
    owners = λ r x slot at. elim (was.owned r slot.owner (slot_is r x slot at).0) [
      | inl own ↦ inl (own.state, own.driver, record { name = who own.state; in_hand = own.in_hand; driver = own.driver_is; ckpt = own.ckpt }, own.call_is)
      | inr dead ↦ inr dead.0
    ];
  }

pub six_facts : GivesSixFacts
six_facts m invariant k e found made all = facts_at m invariant k e found made all
