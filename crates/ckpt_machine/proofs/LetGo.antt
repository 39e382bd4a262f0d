-- A step that takes the slot of a call away at its highest node, where all slots are its own: a withdrawal, or a commit.
use Rattle.std.proofs.Common.{◌≡◌, ◌≢◌, ℕ, ◌<◌, inl, length, Option, Some, None, is_some, Bool, true, false, cond, ◌==◌, ◌&&◌, refl, sym, ap, subst, ◌∙◌, arith}
use Rattle.std.specs.Prelude.{IsSomeAnd, slice_index, slice_set}
use Rattle.std.proofs.lemmas.Bool.{eqb-true, eq-eqb}
use Rattle.std.proofs.lemmas.Option.{same_Some}
use Rattle.ckpt_types.specs.declared.identities.CallId.{CallId}
use Rattle.ckpt_types.specs.Asks.{update_of}
use Rattle.cluster_record.specs.declared.calls.UpdatePhase.{UpdatePhase}
use Rattle.cluster_record.specs.declared.entries.Entry.{Entry}
use Rattle.cluster_record.specs.DueUpdate.{UpdateState}
use Rattle.cluster_record.specs.Places.{put, put2}
use Rattle.cluster_record.specs.RecordState.{entry_of, is_live}
use Rattle.cluster_record.specs.StepDone.{has}
use Rattle.ckpt_machine.specs.Dead.{IsDead, is_enter}
use Rattle.ckpt_machine.specs.Drivers.{update_in}
use Rattle.ckpt_machine.specs.InHand.{IsDoneIn, PhaseKeeps, IsUpdateIn, IsInHand}
use Rattle.ckpt_machine.specs.Invariant.{InvariantIn, Invariant, IsCompleteAt}
use Rattle.ckpt_machine.specs.Machine.{Machine, ReplicaState, CallState, who}
use Rattle.ckpt_machine.specs.Owned.{HasUpdate}
use Rattle.ckpt_machine.specs.Shape.{Shape, IsCompleteOn, IsShaped, IsShapedBy, AreOwn, is_owner, IsOwner, IsSpread, PhaseFits, effects_by}
use Rattle.ckpt_machine.specs.Due.{driver_of}
use Rattle.ckpt_machine.specs.Whose.{put_who}
use Rattle.ckpt_machine.proofs.BehindStep.{IsBehind, StepsSo, IsPlacedBehind, does_then, whose_then, same_then, plain_then, set_within, set_no_later, update_then, hand_then}
use Rattle.ckpt_machine.proofs.CallsKept.{IsSameCall}
use Rattle.ckpt_machine.proofs.NodeLists.{index-set, index-other, length-slice_set, index-within, has-none, had-there}
use Rattle.ckpt_machine.proofs.Whose.{put_who-here}
use Rattle.ckpt_machine.proofs.Frame.{OwnsAll, LiesSame, IsDead-still, IsMarker-still, step_keeps}
use Rattle.ckpt_machine.proofs.OnComplete.{put_complete}
use Rattle.ckpt_machine.proofs.Owning.{spread, made, is_owner-not, owns_had, had_owned, all_is, never_held}

module _ (m : Machine) (shapes : ℕ → Shape) (inv : InvariantIn shapes m) (s : CallState) (u : UpdateState) (held : m.in_hand (who s) ≡ Some s) (is : update_in (driver_of s) ≡ Some u) (at : IsUpdateIn m shapes s u)
    (e : Entry) (found : entry_of u.ckpt m.cluster.entries ≡ Some e) (r : ℕ) (had : has (slice_index e.complete r) (slice_index u.owned r) ≡ true) (behind : (q : ℕ) → r < q → has (slice_index e.complete q) (slice_index u.owned q) ≡ false)
    (alone : AreOwn (shapes u.ckpt) s.call) (x : ReplicaState) (there : m.replicas u.ckpt r ≡ Some x) (done : Bool) where
  abbrev z : Shape
  z = shapes u.ckpt

  abbrev was : IsSpread m u.ckpt z e
  was = spread m shapes inv s u held is at e found

  -- the shape after it
  abbrev pub after_it : Shape
  after_it = record z { owners = put z.owners r None; done = done }

  full_r : IsCompleteOn e r
  full_r = had-there (slice_index e.complete r) (slice_index u.owned r) had

  pub own_r : z.owners r ≡ Some s.call
  own_r = owns_had m shapes inv s u held is at e found r full_r had

  within_r : r < length u.owned
  within_r = subst (λ (i : ℕ). r < i) (was.nodes ∙ sym at.nodes) (index-within e.complete r full_r)

  -- who owns a slot after it: the call, below
  pub owner_cases : (q : ℕ) (c : CallId) → after_it.owners q ≡ Some c → ((q == r) ≡ false) × (z.owners q ≡ Some c) × (c ≡ s.call)
  owner_cases q c has_it = elim (q == r) as (λ b. cond b None (z.owners q) ≡ Some c → (b ≡ false) × (z.owners q ≡ Some c) × (c ≡ s.call)) [
    | true ↦ λ gone. absurd (cc gone)
    | false ↦ λ it. (refl, it, alone q c it)
  ] has_it

  -- none above
  none_above : (p : ℕ) → r < p → z.owners p ≡ Some s.call → ⊥
  none_above p above owns = let w : true ≡ false = sym (had_owned m shapes inv s u held is at e found p owns) ∙ behind p above in cc w

  -- below one that is left all are
  own_below : (q p : ℕ) (c : CallId) → q < p → IsCompleteOn e q → after_it.owners p ≡ Some c → after_it.owners q ≡ Some s.call
  own_below q p c below full has_it =
      let (other, owns, mine) = owner_cases p c has_it in
      elim (q == r) as (λ b. (q == r) ≡ b → cond b None (z.owners q) ≡ Some s.call) [
        | true ↦ λ same. absurd (none_above p (let b : q < p = below in let q_is : q ≡ r = eqb-true q r same in omega (arith, b, q_is)) (owns ∙ ap Some mine))
        | false ↦ λ apart. by_owner (z.owners q) refl (was.lowest q p c below full owns)
      ] refl
    where
      by_owner : (o : Option CallId) → z.owners q ≡ o → is_some o ≡ true → z.owners q ≡ Some s.call
      by_owner None none some = absurd (cc some)
      by_owner (Some d) is_d some = is_d ∙ ap Some (alone q d is_d)

  module _ (y : ReplicaState) (generation : y.generation ≡ x.generation) (y_shaped : IsShaped after_it None y)
      (others : (q : ℕ) → IsCompleteOn e q → z.owners q ≡ None → (w : ReplicaState) → IsShaped z None w → IsShaped after_it None w)
      (has_still : (c : CallState) → HasUpdate c.call (update_of c.op) (effects_by z None) → HasUpdate c.call (update_of c.op) (effects_by after_it None))
      (then_state : CallState) (ph : UpdatePhase) (then_is : IsBehind s u then_state (record u { owned = slice_set u.owned r 0; phase = ph })) where
    abbrev then_driver : UpdateState
    then_driver = record u { owned = slice_set u.owned r 0; phase = ph }

    abbrev then_replicas : ℕ → ℕ → Option ReplicaState
    then_replicas = put2 m.replicas u.ckpt r (Some y)

    abbrev pub n : Machine
    n = record m { replicas = then_replicas; in_hand = put_who m.in_hand (who s) (Some then_state) }

    driver_then : update_in (driver_of then_state) ≡ Some then_driver
    driver_then = does_then m shapes s u is then_state then_driver then_is

    same : IsSameCall s (Some then_state)
    same = same_then m shapes s u is then_state then_driver then_is

    plain : (y : CallState) → Some then_state ≡ Some y → is_enter (driver_of y) ≡ false
    plain = plain_then m shapes s u is then_state then_driver then_is

    pub still : (c : CallId) → IsDead m c → IsDead n c
    still c it = IsDead-still m shapes inv s u held is then_replicas (Some then_state) same plain c it

    shaped_then : (q : ℕ) → IsCompleteOn e q → IsSomeAnd (then_replicas u.ckpt q) (IsShaped after_it (after_it.owners q))
    shaped_then q full =
        subst (λ b. IsSomeAnd (cond (b && (q == r)) (Some y) (m.replicas u.ckpt q)) (IsShaped after_it (after_it.owners q))) (sym (eq-eqb u.ckpt u.ckpt refl))
        (elim (q == r) as (λ b. IsSomeAnd (cond b (Some y) (m.replicas u.ckpt q)) (IsShaped after_it (cond b None (z.owners q)))) [
          | true ↦ y_shaped
          | false ↦ each (m.replicas u.ckpt q) (subst (λ b. IsSomeAnd (m.replicas u.ckpt q) (IsShapedBy b z e.active q)) (all_is m shapes inv s u held is at e found) (was.replicas q full))
        ])
      where
        by_owner : (o : Option CallId) → z.owners q ≡ o → (w : ReplicaState) → IsShaped z o w → IsShaped after_it o w
        by_owner None none w is = others q full none w is
        by_owner (Some d) owns w is = record { slot = is.slot; sections = is.sections; effects = is.effects; unmarked = is.unmarked }

        each : (o : Option ReplicaState) → IsSomeAnd o (IsShaped z (z.owners q)) → IsSomeAnd o (IsShaped after_it (z.owners q))
        each None is = absurd is
        each (Some w) is = by_owner (z.owners q) refl w is

    stays : (j q : ℕ) → (j == u.ckpt) ≡ false → then_replicas j q ≡ m.replicas j q
    stays j q other = ap (λ b. cond (b && (q == r)) (Some y) (m.replicas j q)) other

    owners_same : (c : CallId) → is_live m.cluster c ≡ true → c ≢ s.call → (q : ℕ) → is_owner c (after_it.owners q) ≡ is_owner c (z.owners q)
    owners_same c live other q = elim (q == r) as (λ b. (q == r) ≡ b → is_owner c (cond b None (z.owners q)) ≡ is_owner c (z.owners q)) [
      | true ↦ λ same. sym (ap (is_owner c) (ap z.owners (eqb-true q r same) ∙ own_r) ∙ is_owner-not c s.call (λ it. other (sym it)))
      | false ↦ λ same. refl
    ] refl

    done_still : (c : CallState) → is_live m.cluster c.call ≡ true → c.call ≢ s.call → IsDoneIn z c → IsDoneIn after_it c
    done_still c live other it = record { free = has_still c it.free; under = λ q d has_it apart. it.under q d (owner_cases q d has_it).1 apart }

    owns_then : (q : ℕ) → IsCompleteOn e q → has (slice_index e.complete q) (slice_index (slice_set u.owned r 0) q) ≡ is_owner s.call (after_it.owners q)
    owns_then q full = elim (q == r) as (λ b. (q == r) ≡ b → has (slice_index e.complete q) (slice_index (slice_set u.owned r 0) q) ≡ is_owner s.call (cond b None (z.owners q))) [
      | true ↦ λ same.
          ap (λ (p : ℕ). has (slice_index e.complete q) (slice_index (slice_set u.owned r 0) p)) (eqb-true q r same) ∙ ap (has (slice_index e.complete q)) (index-set u.owned r 0 within_r) ∙ has-none (slice_index e.complete q) full
      | false ↦ λ other. ap (has (slice_index e.complete q)) (index-other u.owned r q 0 other) ∙ at.owns e found q full
    ] refl

    abbrev then_shapes : ℕ → Shape
    then_shapes = put shapes u.ckpt after_it

    -- no other call owns the slot of each complete node
    none_under : (c : CallId) → is_live m.cluster c ≡ true → c ≢ s.call → (f : Entry) → entry_of u.ckpt m.cluster.entries ≡ Some f → OwnsAll z f c → LiesSame after_it z
    none_under c live other f f_found owns = (refl, refl)

    -- THE LAW: the invariant holds after it, where the phase fits
    pub let_go_keeps : PhaseFits n after_it then_state then_driver ph → PhaseKeeps n after_it then_state then_driver ph → IsPlacedBehind m shapes s u → StepsSo m shapes s u then_driver → Invariant n
    let_go_keeps fits keeps placed steps = record {
      shapes = then_shapes;
      holds = step_keeps m shapes inv s u held is then_replicas (Some then_state) same plain stays after_it refl owners_same done_still none_under
          (λ f f_found. (made m shapes inv s u held is at f f_found, subst (IsSpread n u.ckpt after_it) (same_Some e f (sym found ∙ f_found)) spread_then))
          (λ y it. subst (IsInHand n then_shapes (who s)) (same_Some then_state y it) own_then)
          (put_complete m.cluster m.replicas u.ckpt r y (subst (IsCompleteAt m.cluster u.ckpt r) (sym generation) (inv.replicas u.ckpt r x there)) inv.replicas);
    }
      where
        owner_then : IsOwner n u.ckpt after_it s.call
        owner_then = record { state = then_state; in_hand = ap (put_who m.in_hand (who s) (Some then_state)) (whose_then m shapes s u is then_state then_driver then_is) ∙ put_who-here m.in_hand (who s) (Some then_state); call_is = then_is.call; driver = then_driver; driver_is = driver_then; ckpt = refl; phase = fits }

        spread_then : IsSpread n u.ckpt after_it e
        spread_then = record {
          well_formed = was.well_formed;
          nodes = was.nodes;
          some = was.some;
          up = was.up;
          active = was.active;
          replicas = λ q full. subst (λ b. IsSomeAnd (then_replicas u.ckpt q) (IsShapedBy b after_it e.active q)) (sym (all_is m shapes inv s u held is at e found)) (shaped_then q full);
          fits = λ q c has_it. was.fits q c (owner_cases q c has_it).1;
          all = λ q c has_it. all_is m shapes inv s u held is at e found;
          complete = λ q c has_it. was.complete q c (owner_cases q c has_it).1;
          lowest = λ q p c below full has_it. ap is_some (own_below q p c below full has_it);
          first = λ q p c below full has_it own. own_below q p c below full has_it ∙ ap Some (sym (owner_cases p c has_it).2);
          owned = λ q c has_it. inl (subst (IsOwner n u.ckpt after_it) (sym (owner_cases q c has_it).2) owner_then);
          led = was.led;
          marked = λ marks it. IsMarker-still m shapes inv s u held is then_replicas (Some then_state) same plain u.ckpt marks (was.marked marks it);
          held = λ c it. absurd (never_held m shapes inv s u held is at e found c it);
        }

        own_then : IsInHand n then_shapes (who s) then_state
        own_then = hand_then m shapes s u is then_state then_driver then_is at then_replicas n.in_hand after_it (inv.hands (who s) s held) placed steps
            (update_then m shapes s u is then_state then_driver then_is at then_replicas n.in_hand after_it refl refl (length-slice_set u.owned r 0)
            (λ f f_found q full. subst (λ (g : Entry). IsCompleteOn g q → has (slice_index g.complete q) (slice_index (slice_set u.owned r 0) q) ≡ is_owner s.call (after_it.owners q)) (same_Some e f (sym found ∙ f_found)) (owns_then q) full)
            (λ f f_found. keeps)
            (λ f q f_found. set_within m shapes s u at r 0 within_r f f_found (inl refl) q) (set_no_later m shapes s u at r 0 within_r (omega arith)))
