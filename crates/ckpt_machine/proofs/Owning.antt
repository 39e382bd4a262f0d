-- What an update in hand knows of its checkpoint: the slots of dead calls, and its own.
use Rattle.std.proofs.Common.{◌≡◌, ◌≢◌, ℕ, ◌<◌, inl, inr, Option, Some, None, Bool, true, false, refl, sym, ap, subst, ◌∙◌}
use Rattle.std.specs.Prelude.{IsSome, IfSome, slice_index}
use Rattle.std.proofs.lemmas.Option.{same_Some}
use Rattle.ckpt_types.specs.declared.identities.CallId.{CallId}
use Rattle.ckpt_machine.specs.GuardTerms.{OnAll}
use Rattle.ckpt_machine.specs.Seen.{seen, seen_at, seen_by}
use Rattle.ckpt_machine.proofs.Joining.{all_apart}
use Rattle.cluster_record.specs.declared.entries.Entry.{Entry}
use Rattle.cluster_record.specs.DueUpdate.{UpdateState}
use Rattle.cluster_record.specs.RecordState.{entry_of, first_complete, is_live}
use Rattle.cluster_record.specs.StepDone.{has, lacks}
use Rattle.ckpt_machine.specs.Dead.{IsDead}
use Rattle.ckpt_machine.specs.Drivers.{update_in}
use Rattle.ckpt_machine.specs.InHand.{IsUpdateIn}
use Rattle.ckpt_machine.specs.Invariant.{InvariantIn, IsGoodIn}
use Rattle.ckpt_machine.specs.Machine.{Machine, ReplicaState, CallState, who}
use Rattle.cluster_record.specs.Placement.{is_all}
use Rattle.ckpt_machine.specs.Shape.{Shape, IsActiveBy, IsCompleteOn, IsShaped, IsShapedBy, is_owner, IsOwner, IsSpread, PhaseFits}
use Rattle.ckpt_machine.specs.Due.{driver_of}
use Rattle.ckpt_machine.proofs.Actors.{same_call-true, same_call-refl, same_call-false}
use Rattle.ckpt_machine.proofs.OptionLemmas.{IsSomeAnd-at, IsSomeAnd-from}
use Rattle.ckpt_machine.proofs.NodeLists.{not-lacked, trichotomy}
use Rattle.ckpt_machine.proofs.UpdateIn.{no_enter}
use Rattle.ckpt_machine.proofs.Whose.{one_state}

-- ---- calls

-- who owns a slot by the test owns it
pub is_owner-true : (c : CallId) (o : Option CallId) → is_owner c o ≡ true → o ≡ Some c
is_owner-true c None is = absurd (cc is)
is_owner-true c (Some d) is = ap Some (same_call-true d c is)

pub is_owner-here : (c : CallId) (o : Option CallId) → o ≡ Some c → is_owner c o ≡ true
is_owner-here c o is = ap (is_owner c) is ∙ same_call-refl c

-- another call does not
pub is_owner-not : (c d : CallId) → d ≢ c → is_owner c (Some d) ≡ false
is_owner-not c d other = same_call-false d c other

module _ (m : Machine) (shapes : ℕ → Shape) (inv : InvariantIn shapes m) (s : CallState) (u : UpdateState) (held : m.in_hand (who s) ≡ Some s) (is : update_in (driver_of s) ≡ Some u) (at : IsUpdateIn m shapes s u) where
  -- it is live
  pub live_own : is_live m.cluster s.call ≡ true
  live_own = (inv.hands (who s) s held).live (no_enter (driver_of s) u is)

  -- its checkpoint is made, where it is there
  pub made : (e : Entry) → entry_of u.ckpt m.cluster.entries ≡ Some e → e.making ≡ None
  made e found = subst (λ o. IfSome o (λ (e : Entry). e.making ≡ None)) found at.made.made

  pub spread : (e : Entry) → entry_of u.ckpt m.cluster.entries ≡ Some e → IsSpread m u.ckpt (shapes u.ckpt) e
  spread e found = subst (IsGoodIn m u.ckpt (shapes u.ckpt) e) (made e found) (inv.entries u.ckpt e found)

  -- a dead call is another
  pub dead_other : (d : CallId) → IsDead m d → d ≢ s.call
  dead_other d dead same = let c : true ≡ false = sym live_own ∙ ap (is_live m.cluster) (sym same) ∙ dead.gone in cc c

  -- and a live call is another than a dead one
  pub live_not_dead : (c d : CallId) → is_live m.cluster c ≡ true → IsDead m d → d ≢ c
  live_not_dead c d live dead same = let v : true ≡ false = sym live ∙ ap (is_live m.cluster) (sym same) ∙ dead.gone in cc v

  module _ (e : Entry) (found : entry_of u.ckpt m.cluster.entries ≡ Some e) where
    abbrev z : Shape
    z = shapes u.ckpt

    abbrev was : IsSpread m u.ckpt (shapes u.ckpt) e
    was = spread e found

    -- updates of its checkpoint are on all replicas, so none is marked or held
    pub all_is : is_all e.attributes ≡ true
    all_is = subst (λ o. IfSome o (λ (e : Entry). is_all e.attributes ≡ true)) found at.all

    pub never_held : (d : CallId) → e.hold ≡ Some d → ⊥
    never_held d holds = let w : true ≡ false = sym (was.held d holds).collocated ∙ all_apart e.attributes all_is in cc w

    -- so it has an active
    pub is_led : IsSome e.active
    is_led =
        let lowest : e.active ≡ first_complete 0 e.complete = subst (λ (z : Bool × Bool). IsActiveBy z.0 z.1 e.complete e.active) (λ i. (all_apart e.attributes all_is i, all_is i)) was.active in
        subst (λ (o : Option ℕ). IsSome o) (sym lowest) was.some

    pub never_unled : e.active ≡ None → ⊥
    never_unled none = let w : false ≡ true = subst (λ (o : Option ℕ). IsSome o) none is_led in cc w

    -- the replica of a complete node
    pub replica_at : (q : ℕ) → IsCompleteOn e q → (x : ReplicaState) × (m.replicas u.ckpt q ≡ Some x) × IsShaped z (z.owners q) x
    replica_at q there =
        let (x, x_is, by) = IsSomeAnd-at (m.replicas u.ckpt q) (IsShapedBy (is_all e.attributes) z e.active q) (was.replicas q there) in
        (x, x_is, subst (λ b. IsShapedBy b z e.active q x) all_is by)

    -- as a node sees it
    pub seen_is : (q : ℕ) (x : ReplicaState) → m.replicas u.ckpt q ≡ Some x → seen_at m u.ckpt q ≡ Some (seen u.ckpt e.attributes x)
    seen_is q x there = ap (λ o. seen_by u.ckpt o (m.replicas u.ckpt q)) found ∙ ap (seen_by u.ckpt (Some e)) there

    pub on_all : (q : ℕ) (x : ReplicaState) (P : Entry → ReplicaState → Type 0) → m.replicas u.ckpt q ≡ Some x → P e x → OnAll m u.ckpt q P
    on_all q x P there p = IsSomeAnd-from (entry_of u.ckpt m.cluster.entries) _ e found (IsSomeAnd-from (m.replicas u.ckpt q) (λ x. (is_all e.attributes ≡ true) × P e x) x there (all_is, p))

    -- a node that it has is one whose slot it owns, and the other way round
    pub owns_had : (q : ℕ) → IsCompleteOn e q → has (slice_index e.complete q) (slice_index u.owned q) ≡ true → z.owners q ≡ Some s.call
    owns_had q there had = is_owner-true s.call (z.owners q) (sym (at.owns e found q there) ∙ had)

    pub had_owned : (q : ℕ) → z.owners q ≡ Some s.call → has (slice_index e.complete q) (slice_index u.owned q) ≡ true
    had_owned q owns = at.owns e found q (was.complete q s.call owns) ∙ is_owner-here s.call (z.owners q) owns

    -- where it owns a slot, the shape is as its phase says
    pub own_phase : (own : IsOwner m u.ckpt z s.call) → PhaseFits m z s u u.phase
    own_phase own =
        let names : who own.state ≡ who s = inv.calls.one_name (who own.state) (who s) own.state s own.in_hand held own.call_is in
        let state : own.state ≡ s = one_state m.in_hand (who own.state) (who s) own.state s own.in_hand held names in
        let driver : own.driver ≡ u = same_Some own.driver u (sym own.driver_is ∙ ap (λ y. update_in (driver_of y)) state ∙ is) in
        subst (λ v. PhaseFits m z s v v.phase) driver (subst (λ y. PhaseFits m z y own.driver own.driver.phase) state own.phase)

    -- one that owns a slot is no dead call
    pub own_owner : (q : ℕ) → z.owners q ≡ Some s.call → IsOwner m u.ckpt z s.call
    own_owner q owns = elim (was.owned q s.call owns) [
      | inl own ↦ own
      | inr dead ↦ absurd (dead_other s.call dead.0 refl)
    ]

    -- ---- with a slot of a dead call at the lowest node that it lacks

    module _ (r : ℕ) (complete : IsCompleteOn e r) (before : (q : ℕ) → q < r → lacks (slice_index e.complete q) (slice_index u.owned q) ≡ false) (d : CallId) (owns : z.owners r ≡ Some d) (dead : IsDead m d) where
      -- below it all is its own
      pub own_below : (q : ℕ) → q < r → IsCompleteOn e q → z.owners q ≡ Some s.call
      own_below q below there = owns_had q there (not-lacked (slice_index e.complete q) (slice_index u.owned q) there (before q below))

      -- and only there
      pub own_only : (q : ℕ) → z.owners q ≡ Some s.call → q < r
      own_only q owns_q = elim (trichotomy q r) [
        | inl below ↦ below
        | inr other ↦ elim other [
          | inl same ↦ absurd (dead_other d dead (same_Some d s.call (sym owns ∙ ap (shapes u.ckpt).owners (sym same) ∙ owns_q)))
          | inr above ↦ absurd (dead_other d dead (same_Some d s.call (sym owns ∙ was.first r q s.call above complete owns_q (own_owner q owns_q))))
        ]
      ]

      -- no other call in hand owns a slot
      pub none_else : (q : ℕ) (c : CallId) → z.owners q ≡ Some c → IsOwner m u.ckpt z c → c ≡ s.call
      none_else q c owns_q own = elim (trichotomy q r) [
        | inl below ↦ same_Some c s.call (sym owns_q ∙ own_below q below (was.complete q c owns_q))
        | inr other ↦ absurd (elim other [
          | inl same ↦ live_apart (same_Some d c (sym owns ∙ ap (shapes u.ckpt).owners (sym same) ∙ owns_q))
          | inr above ↦ live_apart (same_Some d c (sym owns ∙ was.first r q c above complete owns_q own))
        ])
      ]
        where
          live_apart : d ≡ c → ⊥
          live_apart same = live_not_dead c d (ap (is_live m.cluster) (sym own.call_is) ∙ (inv.hands (who own.state) own.state own.in_hand).live (no_enter (driver_of own.state) own.driver own.driver_is)) dead same
