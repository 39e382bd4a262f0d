-- What stands on a replica: whose its slot is, and whose its marks are, by the shape of its checkpoint.
use Rattle.std.proofs.Common.{◌≡◌, ◌⊎◌, inl, inr, ℕ, Option, Some, None, Bool, true, false, cond, ◌==◌, refl, sym, ap, subst, ◌∙◌}
use Rattle.std.specs.Prelude.{slice_index}
use Rattle.std.proofs.lemmas.Option.{same_Some}
use Rattle.ckpt_types.specs.declared.identities.CallId.{CallId}
use Rattle.weak_marks.specs.Marks.{Marked}
use Rattle.cluster_record.specs.declared.entries.Entry.{Entry}
use Rattle.cluster_record.specs.Placement.{is_all}
use Rattle.cluster_record.specs.RecordState.{entry_of}
use Rattle.cluster_record.specs.declared.calls.UpdatePhase.{UpdatePhase}
use Rattle.cluster_record.specs.declared.calls.UpdatePhase.TheVariants.{Staging, Committing, Claiming, Claimed, Withdrawing, Resolving}
use Rattle.cluster_record.specs.DueUpdate.{UpdateState}
use Rattle.ckpt_machine.specs.Due.{driver_of}
use Rattle.ckpt_machine.specs.Dead.{IsDead}
use Rattle.ckpt_machine.specs.Drivers.{update_in}
use Rattle.ckpt_machine.specs.Invariant.{IsGoodIn, InvariantIn, Invariant}
use Rattle.ckpt_machine.specs.Machine.{Machine, Staged, ReplicaState, who, CallState}
use Rattle.ckpt_machine.specs.Shape.{Shape, IsCompleteOn, IsShapedBy, IsOwner, IsMarker, IsSpread, slot_by, marks_at, IsLeft, PhaseFits}
use Rattle.ckpt_machine.proofs.Follows.{IsBare, IsIncomplete}
use Rattle.ckpt_machine.proofs.OptionLemmas.{IsSomeAnd-at}
use Rattle.ckpt_types.proofs.Lists.{slice_index-replicate}

-- the call is in hand, and does an update on all replicas
pub record IsUpdater (m : Machine) (call : CallId) : Type 0 where
  pub state : CallState
  pub in_hand : m.in_hand (who state) ≡ Some state
  pub call_is : state.call ≡ call
  pub driver : UpdateState
  pub driver_is : update_in (driver_of state) ≡ Some driver

-- on no node is complete what is in the making
pub maker_incomplete : (m : Machine) → Invariant m → (call : CallId) (k r : ℕ) (e : Entry) → entry_of k m.cluster.entries ≡ Some e → e.making ≡ Some call → IsIncomplete e r
maker_incomplete m inv call k r e found making =
    let good = subst (λ maker. IsGoodIn m k (inv.shapes k) e maker) making (inv.holds.entries k e found) in
    ap (λ nodes. slice_index nodes r == 0) good.0.complete ∙ ap (λ n. n == 0) (slice_index-replicate 8 r)

-- the checkpoint on which a node is complete is made
pub made_where_complete : (m : Machine) → Invariant m → (k r : ℕ) (e : Entry) → entry_of k m.cluster.entries ≡ Some e → IsCompleteOn e r → e.making ≡ None
made_where_complete m inv k r e found complete = by_making e.making refl
  where
    by_making : (o : Option CallId) → e.making ≡ o → e.making ≡ None
    by_making None is = is
    by_making (Some c) is = absurd (let w : true ≡ false = sym (maker_incomplete m inv c k r e found is) ∙ complete in cc w)

module _ (m : Machine) (shapes : ℕ → Shape) (inv : InvariantIn shapes m) (bare : IsBare m) where
  -- a checkpoint that has a replica is there
  pub entry_there : (k r : ℕ) (x : ReplicaState) → m.replicas k r ≡ Some x → (e : Entry) × (entry_of k m.cluster.entries ≡ Some e) × IsCompleteOn e r
  entry_there k r x at = IsSomeAnd-at (entry_of k m.cluster.entries) (λ e. IsCompleteOn e r) (bare.complete k r x at)

  -- a checkpoint that has a replica is made, and the replica is as its shape says
  pub record IsShapedAt (k r : ℕ) (x : ReplicaState) (e : Entry) : Type 0 where
    pub spread : IsSpread m k (shapes k) e
    pub shaped : IsShapedBy (is_all e.attributes) (shapes k) e.active r x

  pub shaped_there : (k r : ℕ) (x : ReplicaState) (e : Entry) → m.replicas k r ≡ Some x → entry_of k m.cluster.entries ≡ Some e → IsShapedAt k r x e
  shaped_there k r x e at found =
      let (f, is, complete) = entry_there k r x at in
      by_maker (subst (λ e. IsCompleteOn e r) (same_Some f e (sym is ∙ found)) complete) e.making (inv.entries k e found)
    where
      by_maker : IsCompleteOn e r → (maker : Option CallId) → IsGoodIn m k (shapes k) e maker → IsShapedAt k r x e
      by_maker there (Some call) good =
          let none : (slice_index e.complete r == 0) ≡ true = ap (λ nodes. slice_index nodes r == 0) good.0.complete ∙ ap (λ n. n == 0) (slice_index-replicate 8 r) in
          absurd (let w : true ≡ false = sym none ∙ there in cc w)
      by_maker there None good =
          let (y, is, shaped) = IsSomeAnd-at (m.replicas k r) (IsShapedBy (is_all e.attributes) (shapes k) e.active r) (good.replicas r there) in
          record { spread = good; shaped = subst (IsShapedBy (is_all e.attributes) (shapes k) e.active r) (same_Some y x (sym is ∙ at)) shaped }

  -- what is staged is owned by a call in hand, an update of this checkpoint, or by a dead one, as is then the call whose update it is; and it is that of the shape
  pub slot_owned : (k r : ℕ) (x : ReplicaState) (slot : Staged) → m.replicas k r ≡ Some x → x.slot ≡ Some slot → (IsOwner m k (shapes k) slot.owner ⊎ IsLeft m (shapes k) slot.owner) × (slot.origin ≡ (shapes k).origin) × (slot.update ≡ (shapes k).update) × ((shapes k).owners r ≡ Some slot.owner)
  slot_owned k r x slot there staged =
      let (e, found, complete) = entry_there k r x there in
      let at = shaped_there k r x e there found in
      by_shape (is_all e.attributes) e.active at.shaped (at.spread.owned r)
    where
      by_owner : (o : Option CallId) → (shapes k).owners r ≡ o → slot_by (shapes k) o ≡ Some slot → ((d : CallId) → (shapes k).owners r ≡ Some d → IsOwner m k (shapes k) d ⊎ IsLeft m (shapes k) d) → (IsOwner m k (shapes k) slot.owner ⊎ IsLeft m (shapes k) slot.owner) × (slot.origin ≡ (shapes k).origin) × (slot.update ≡ (shapes k).update) × ((shapes k).owners r ≡ Some slot.owner)
      by_owner None is none owned = absurd (cc none)
      by_owner (Some d) is some owned =
          let same = same_Some (record { owner = d; origin = (shapes k).origin; update = (shapes k).update; moment = (shapes k).moment }) slot some in
          let owner : d ≡ slot.owner = ap (λ (z : Staged). z.owner) same in
          (subst (λ d. IsOwner m k (shapes k) d ⊎ IsLeft m (shapes k) d) owner (owned d is), ap (λ (z : Staged). z.origin) (sym same), ap (λ (z : Staged). z.update) (sym same), is ∙ ap Some owner)

      -- where updates are on the active alone, nothing is staged
      by_shape : (all : Bool) (active : Option ℕ) → IsShapedBy all (shapes k) active r x → ((d : CallId) → (shapes k).owners r ≡ Some d → IsOwner m k (shapes k) d ⊎ IsLeft m (shapes k) d) → (IsOwner m k (shapes k) slot.owner ⊎ IsLeft m (shapes k) slot.owner) × (slot.origin ≡ (shapes k).origin) × (slot.update ≡ (shapes k).update) × ((shapes k).owners r ≡ Some slot.owner)
      by_shape true active shaped owned = by_owner ((shapes k).owners r) refl (sym shaped.slot ∙ staged) owned
      by_shape false active apart owned = absurd (let w : None ≡ Some slot = sym apart.free ∙ staged in cc w)

  -- so its owner is in hand, or dead; and so is the call whose update it is
  pub slot_calls : (k r : ℕ) (x : ReplicaState) (slot : Staged) → m.replicas k r ≡ Some x → x.slot ≡ Some slot → (IsUpdater m slot.owner ⊎ IsDead m slot.owner) × (IsUpdater m slot.origin ⊎ IsDead m slot.origin)
  slot_calls k r x slot there staged =
      let (by, origin, update, owns) = slot_owned k r x slot there staged in
      elim by [
        | inl own ↦ (inl (owner_held own), by_phase own origin own.driver.phase own.phase)
        | inr left ↦ (inr left.0, inr (subst (IsDead m) (sym origin) left.1))
      ]
    where
      owner_held : IsOwner m k (shapes k) slot.owner → IsUpdater m slot.owner
      owner_held own = record { state = own.state; in_hand = own.in_hand; call_is = own.call_is; driver = own.driver; driver_is = own.driver_is }

      by_phase : (own : IsOwner m k (shapes k) slot.owner) → slot.origin ≡ (shapes k).origin → (ph : UpdatePhase) → PhaseFits m (shapes k) own.state own.driver ph → IsUpdater m slot.origin ⊎ IsDead m slot.origin
      by_phase own origin Staging fits = inl (record { state = own.state; in_hand = own.in_hand; call_is = sym (origin ∙ fits.origin); driver = own.driver; driver_is = own.driver_is })
      by_phase own origin Committing fits = inl (record { state = own.state; in_hand = own.in_hand; call_is = sym (origin ∙ fits.origin); driver = own.driver; driver_is = own.driver_is })
      by_phase own origin Claiming fits = absurd fits
      by_phase own origin Claimed fits = inr (subst (IsDead m) (sym origin) fits.origin)
      by_phase own origin Withdrawing fits = inr (subst (IsDead m) (sym origin) fits.origin)
      by_phase own origin Resolving fits = inr (subst (IsDead m) (sym origin) fits.origin)

  -- the marks that stand on a replica are of a call in hand, a weak write of this checkpoint
  pub marks_owned : (k r : ℕ) (x : ReplicaState) (marks : Marked) → m.replicas k r ≡ Some x → x.marks ≡ Some marks → IsMarker m k marks
  marks_owned k r x marks there marked =
      let (e, found, complete) = entry_there k r x there in
      let at = shaped_there k r x e there found in
      by_shape (is_all e.attributes) e.active at.shaped (at.spread.marked marks)
    where
      -- they are those of the checkpoint
      on_active : (active : Option ℕ) → marks_at active (shapes k).marks r ≡ Some marks → (shapes k).marks ≡ Some marks
      on_active None none = absurd (cc none)
      on_active (Some active) some = elim (r == active) as (λ b. cond b (shapes k).marks None ≡ Some marks → (shapes k).marks ≡ Some marks) [ true ↦ λ is. is | false ↦ λ none. absurd (cc none) ] some

      -- where updates are on all replicas, there are none
      by_shape : (all : Bool) (active : Option ℕ) → IsShapedBy all (shapes k) active r x → ((shapes k).marks ≡ Some marks → IsMarker m k marks) → IsMarker m k marks
      by_shape true active shaped marker = absurd (let w : None ≡ Some marks = sym shaped.unmarked ∙ marked in cc w)
      by_shape false active apart marker = marker (on_active active (sym apart.marks_are ∙ marked))
