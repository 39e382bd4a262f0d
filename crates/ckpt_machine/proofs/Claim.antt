-- A claim at the lowest node that the call lacks, where the slot is of a dead call.
use Rattle.std.proofs.Common.{◌≡◌, ◌≢◌, ◌⊎◌, ℕ, ◌<◌, ◌≤◌, inl, inr, ◌∷◌, length, Option, Some, None, true, false, cond, ◌==◌, ◌&&◌, refl, sym, ap, subst, ◌∙◌, arith}
use Rattle.std.specs.Prelude.{IsSome, IsSomeAnd, slice_index, slice_set}
use Rattle.std.proofs.lemmas.Bool.{eqb-true, eq-eqb}
use Rattle.std.proofs.lemmas.Option.{same_Some}
use Rattle.ckpt_types.specs.declared.identities.CallId.{CallId}
use Rattle.cluster_record.specs.declared.calls.UpdatePhase.TheVariants.{Claimed}
use Rattle.cluster_record.specs.declared.entries.Entry.{Entry}
use Rattle.cluster_record.specs.DueUpdate.{UpdateState}
use Rattle.cluster_record.specs.Places.{put, put2}
use Rattle.cluster_record.specs.RecordState.{entry_of, complete_of, is_live}
use Rattle.cluster_record.specs.StepDone.{StepDone, done_of, counting, has, lacks}
use Rattle.node_msgs.specs.declared.steps.Verb.TheVariants as verbs
use Rattle.node_msgs.specs.declared.steps.StepReply.TheVariants as words
use Rattle.ckpt_machine.specs.Dead.{IsDead, is_enter}
use Rattle.ckpt_machine.specs.Drivers.{update_in}
use Rattle.ckpt_machine.specs.UpdateGuards.{ClaimOk}
use Rattle.ckpt_machine.specs.InHand.{IsDoneIn, IsToCommit, IsUpdateIn, IsInHand}
use Rattle.ckpt_machine.specs.Invariant.{InvariantIn, Invariant}
use Rattle.ckpt_machine.specs.Machine.{Machine, ReplicaState, CallState, who}
use Rattle.ckpt_machine.specs.Shape.{Shape, IsCompleteOn, IsShaped, IsShapedBy, is_owner, IsOwner, IsLeft, IsSpread}
use Rattle.ckpt_machine.specs.Due.{driver_of}
use Rattle.ckpt_machine.specs.After.{with_claim, slot_claimed}
use Rattle.ckpt_machine.specs.Whose.{put_who}
use Rattle.ckpt_machine.proofs.Actors.{same_call-refl}
use Rattle.ckpt_machine.proofs.BehindStep.{IsBehind, IsPlacedBehind, does_then, same_then, plain_then, set_within, set_no_later, update_then, hand_then}
use Rattle.ckpt_machine.proofs.CallsKept.{IsSameCall}
use Rattle.ckpt_machine.proofs.NodeLists.{index-set, index-other, length-slice_set, index-within, has-itself}
use Rattle.ckpt_machine.proofs.Whose.{put_who-here}
use Rattle.ckpt_machine.proofs.Frame.{OwnsAll, LiesSame, IsDead-still, owner_back, IsMarker-still, step_keeps}
use Rattle.ckpt_machine.proofs.OnComplete.{put_complete}
use Rattle.ckpt_machine.proofs.Stage.{IsShaped-owners}
use Rattle.ckpt_machine.proofs.Owning.{spread, made, is_owner-not, live_not_dead, own_below, own_only, none_else, all_is, never_held}

module _ (m : Machine) (shapes : ℕ → Shape) (inv : InvariantIn shapes m) (s : CallState) (u : UpdateState) (held : m.in_hand (who s) ≡ Some s) (is : update_in (driver_of s) ≡ Some u) (at : IsUpdateIn m shapes s u)
    (e : Entry) (found : entry_of u.ckpt m.cluster.entries ≡ Some e) (r : ℕ) (complete : IsCompleteOn e r) (before : (q : ℕ) → q < r → lacks (slice_index e.complete q) (slice_index u.owned q) ≡ false)
    (d : CallId) (owns : (shapes u.ckpt).owners r ≡ Some d) (dead : IsLeft m (shapes u.ckpt) d) (x : ReplicaState) (there : m.replicas u.ckpt r ≡ Some x) (shaped : IsShaped (shapes u.ckpt) (Some d) x) where
  abbrev z : Shape
  z = shapes u.ckpt

  abbrev was : IsSpread m u.ckpt z e
  was = spread m shapes inv s u held is at e found

  -- the guard
  pub claim_ok : ClaimOk m s.call None x
  claim_ok = record { owner = subst (λ o. IsSomeAnd o (λ slot. (slot.owner ≡ s.call) ⊎ (is_live m.cluster slot.owner ≡ false))) (sym shaped.slot) (inr dead.0.gone); answer = refl }

  -- ---- the state after it

  abbrev claimed : Shape
  claimed = record z { owners = put z.owners r (Some s.call) }

  abbrev pub claim_done : StepDone
  claim_done = counting (length x.effects) (done_of m.cluster verbs.Claim (Some u.ckpt) (Some r) words.Ok)

  abbrev pub then_state : CallState
  then_state = record s { steps = claim_done ∷ s.steps }

  abbrev then_driver : UpdateState
  then_driver = record u { owned = slice_set u.owned r (slice_index e.complete r); count = length x.effects; phase = Claimed }

  abbrev then_replicas : ℕ → ℕ → Option ReplicaState
  then_replicas = put2 m.replicas u.ckpt r (Some (with_claim s.call x))

  abbrev pub n : Machine
  n = record m { replicas = then_replicas; in_hand = put_who m.in_hand (who s) (Some then_state) }

  then_is : IsBehind s u then_state then_driver
  then_is = record {
    step = claim_done;
    of = tt;
    call = refl;
    op = refl;
    kept = refl;
    begun = refl;
    steps = refl;
    update = ap (λ o. record u { owned = slice_set u.owned r (slice_index (complete_of o) r); count = length x.effects; phase = Claimed }) found;
  }

  driver_then : update_in (driver_of then_state) ≡ Some then_driver
  driver_then = does_then m shapes s u is then_state then_driver then_is

  same_state : IsSameCall s (Some then_state)
  same_state = same_then m shapes s u is then_state then_driver then_is

  plain : (y : CallState) → Some then_state ≡ Some y → is_enter (driver_of y) ≡ false
  plain = plain_then m shapes s u is then_state then_driver then_is

  still : (c : CallId) → IsDead m c → IsDead n c
  still c it = IsDead-still m shapes inv s u held is then_replicas (Some then_state) same_state plain c it

  owner_then : IsOwner n u.ckpt claimed s.call
  owner_then = record {
    state = then_state;
    in_hand = put_who-here m.in_hand (who s) (Some then_state);
    call_is = refl;
    driver = then_driver;
    driver_is = driver_then;
    ckpt = refl;
    phase = record { origin = still z.origin dead.1; count = ap length shaped.effects };
  }

  -- who owns a slot after it
  owner_cases : (q : ℕ) (c : CallId) → claimed.owners q ≡ Some c → ((q ≡ r) × (c ≡ s.call)) ⊎ (((q == r) ≡ false) × (z.owners q ≡ Some c))
  owner_cases q c has_it = elim (q == r) as (λ b. (q == r) ≡ b → cond b (Some s.call) (z.owners q) ≡ Some c → ((q ≡ r) × (c ≡ s.call)) ⊎ ((b ≡ false) × (z.owners q ≡ Some c))) [
    | true ↦ λ same here. inl (eqb-true q r same, sym (same_Some s.call c here))
    | false ↦ λ other it. inr (refl, it)
  ] refl has_it

  -- below the claimed node, and there, all is its own
  own_to : (q : ℕ) → (q ≡ r) ⊎ (q < r) → IsCompleteOn e q → claimed.owners q ≡ Some s.call
  own_to q which full = elim (q == r) as (λ b. (q == r) ≡ b → cond b (Some s.call) (z.owners q) ≡ Some s.call) [
    | true ↦ λ same. refl
    | false ↦ λ other. elim which [
      | inl same ↦ absurd (let w : true ≡ false = sym (eq-eqb q r same) ∙ other in cc w)
      | inr below ↦ own_below m shapes inv s u held is at e found r complete before d owns dead.0 q below full
    ]
  ] refl

  shaped_then : (q : ℕ) → IsCompleteOn e q → IsSomeAnd (then_replicas u.ckpt q) (IsShaped claimed (claimed.owners q))
  shaped_then q full =
      subst (λ b. IsSomeAnd (cond (b && (q == r)) (Some (with_claim s.call x)) (m.replicas u.ckpt q)) (IsShaped claimed (claimed.owners q))) (sym (eq-eqb u.ckpt u.ckpt refl))
      (elim (q == r) as (λ b. IsSomeAnd (cond b (Some (with_claim s.call x)) (m.replicas u.ckpt q)) (IsShaped claimed (cond b (Some s.call) (z.owners q)))) [
        | true ↦ record { slot = ap (slot_claimed s.call) shaped.slot; sections = shaped.sections; effects = shaped.effects; unmarked = shaped.unmarked }
        | false ↦ each (m.replicas u.ckpt q) (subst (λ b. IsSomeAnd (m.replicas u.ckpt q) (IsShapedBy b z e.active q)) (all_is m shapes inv s u held is at e found) (was.replicas q full))
      ])
    where
      each : (o : Option ReplicaState) → IsSomeAnd o (IsShaped z (z.owners q)) → IsSomeAnd o (IsShaped claimed (z.owners q))
      each None is = absurd is
      each (Some y) is = IsShaped-owners z claimed.owners (z.owners q) y is

  spread_then : IsSpread n u.ckpt claimed e
  spread_then = record {
    well_formed = was.well_formed;
    nodes = was.nodes;
    some = was.some;
    up = was.up;
    active = was.active;
    replicas = λ q full. subst (λ b. IsSomeAnd (then_replicas u.ckpt q) (IsShapedBy b claimed e.active q)) (sym (all_is m shapes inv s u held is at e found)) (shaped_then q full);
    fits = λ q c has_it. was.fits r d owns;
    all = λ q c has_it. all_is m shapes inv s u held is at e found;
    complete = λ q c has_it. elim (owner_cases q c has_it) [
      | inl here ↦ subst (IsCompleteOn e) (sym here.0) complete
      | inr it ↦ was.complete q c it.1
    ];
    lowest = λ q p c below full has_it. some_still q (elim (owner_cases p c has_it) [
      | inl here ↦ was.lowest q r d (let b : q < p = below in let p_is : p ≡ r = here.0 in omega (arith, b, p_is)) full owns
      | inr it ↦ was.lowest q p c below full it.1
    ]);
    first = λ q p c below full has_it own. elim (owner_cases p c has_it) [
      | inl here ↦ own_to q (inr (let b : q < p = below in let p_is : p ≡ r = here.0 in omega (arith, b, p_is))) full ∙ ap Some (sym here.1)
      | inr it ↦ (
          let own_before = owner_back m shapes inv s u held is then_replicas (Some then_state) same_state plain u.ckpt z claimed c (was.owned p c it.1) own in
          let c_is : c ≡ s.call = none_else m shapes inv s u held is at e found r complete before d owns dead.0 p c it.1 own_before in
          let p_below : p < r = own_only m shapes inv s u held is at e found r complete before d owns dead.0 p (it.1 ∙ ap Some c_is) in
          own_to q (inr (let b : q < p = below in omega (arith, b, p_below))) full ∙ ap Some (sym c_is))
    ];
    owned = λ q c has_it. elim (owner_cases q c has_it) [
      | inl here ↦ inl (subst (IsOwner n u.ckpt claimed) (sym here.1) owner_then)
      | inr it ↦ elim (was.owned q c it.1) [
        | inl own ↦ inl (subst (IsOwner n u.ckpt claimed) (sym (none_else m shapes inv s u held is at e found r complete before d owns dead.0 q c it.1 own)) owner_then)
        | inr left ↦ inr (still c left.0, still z.origin left.1)
      ]
    ];
    led = was.led;
    marked = λ marks it. IsMarker-still m shapes inv s u held is then_replicas (Some then_state) same_state plain u.ckpt marks (was.marked marks it);
    held = λ c it. absurd (never_held m shapes inv s u held is at e found c it);
  }
    where
      some_still : (q : ℕ) → IsSome (z.owners q) → IsSome (claimed.owners q)
      some_still q some = elim (q == r) as (λ b. IsSome (cond b (Some s.call) (z.owners q))) [ true ↦ refl | false ↦ some ]

  -- ---- the frame

  stays : (j q : ℕ) → (j == u.ckpt) ≡ false → then_replicas j q ≡ m.replicas j q
  stays j q other = ap (λ b. cond (b && (q == r)) (Some (with_claim s.call x)) (m.replicas j q)) other

  owners_same : (c : CallId) → is_live m.cluster c ≡ true → c ≢ s.call → (q : ℕ) → is_owner c (claimed.owners q) ≡ is_owner c (z.owners q)
  owners_same c live other q = elim (q == r) as (λ b. (q == r) ≡ b → is_owner c (cond b (Some s.call) (z.owners q)) ≡ is_owner c (z.owners q)) [
    | true ↦ λ same. is_owner-not c s.call (λ it. other (sym it)) ∙ sym (ap (is_owner c) (ap z.owners (eqb-true q r same) ∙ owns) ∙ is_owner-not c d (live_not_dead m shapes inv s u held is at c d live dead.0))
    | false ↦ λ same. refl
  ] refl

  done_still : (y : CallState) → is_live m.cluster y.call ≡ true → y.call ≢ s.call → IsDoneIn z y → IsDoneIn claimed y
  done_still y live other it = record {
    free = it.free;
    under = λ q c has_it apart. elim (owner_cases q c has_it) [
      | inl here ↦ it.under r d owns (live_not_dead m shapes inv s u held is at y.call d live dead.0)
      | inr by ↦ it.under q c by.1 apart
    ];
  }

  abbrev then_shapes : ℕ → Shape
  then_shapes = put shapes u.ckpt claimed

  owns_then : (q : ℕ) → IsCompleteOn e q → has (slice_index e.complete q) (slice_index (slice_set u.owned r (slice_index e.complete r)) q) ≡ is_owner s.call (claimed.owners q)
  owns_then q full = elim (q == r) as (λ b. (q == r) ≡ b → has (slice_index e.complete q) (slice_index (slice_set u.owned r (slice_index e.complete r)) q) ≡ is_owner s.call (cond b (Some s.call) (z.owners q))) [
    | true ↦ λ same.
        let within : r < length u.owned = subst (λ (i : ℕ). r < i) (was.nodes ∙ sym at.nodes) (index-within e.complete r complete) in
        subst (λ (p : ℕ). has (slice_index e.complete p) (slice_index (slice_set u.owned r (slice_index e.complete r)) p) ≡ is_owner s.call (Some s.call)) (sym (eqb-true q r same))
        (ap (has (slice_index e.complete r)) (index-set u.owned r (slice_index e.complete r) within) ∙ has-itself (slice_index e.complete r) complete ∙ sym (same_call-refl s.call))
    | false ↦ λ other. ap (has (slice_index e.complete q)) (index-other u.owned r q (slice_index e.complete r) other) ∙ at.owns e found q full
  ] refl

  within_r : r < length u.owned
  within_r = subst (λ (i : ℕ). r < i) (was.nodes ∙ sym at.nodes) (index-within e.complete r complete)

  -- what lies under the slots is as it was
  none_under : (c : CallId) → is_live m.cluster c ≡ true → c ≢ s.call → (f : Entry) → entry_of u.ckpt m.cluster.entries ≡ Some f → OwnsAll z f c → LiesSame claimed z
  none_under c live other f f_found all = (refl, refl)

  own_then : IsDead m u.owner → IsPlacedBehind m shapes s u → (IsToCommit z s.call e u.phase → ⊥) → IsInHand n then_shapes (who s) then_state
  own_then kept placed apart = hand_then m shapes s u is then_state then_driver then_is at then_replicas n.in_hand claimed (inv.hands (who s) s held) placed
      (λ f f_found. inr (λ it. cc it, subst (λ (g : Entry). IsToCommit z s.call g u.phase → ⊥) (same_Some e f (sym found ∙ f_found)) apart))
      (update_then m shapes s u is then_state then_driver then_is at then_replicas n.in_hand claimed refl refl (length-slice_set u.owned r (slice_index e.complete r))
      (λ f f_found q full. subst (λ (g : Entry). IsCompleteOn g q → has (slice_index g.complete q) (slice_index (slice_set u.owned r (slice_index e.complete r)) q) ≡ is_owner s.call (claimed.owners q)) (same_Some e f (sym found ∙ f_found)) (owns_then q) full)
      (λ f f_found. still u.owner kept)
      (λ f q f_found. set_within m shapes s u at r (slice_index e.complete r) within_r f f_found (inr (subst (λ (g : Entry). IsCompleteOn g r) (same_Some e f (sym found ∙ f_found)) complete)) q)
      (set_no_later m shapes s u at r (slice_index e.complete r) within_r (subst (λ (i : ℕ). i ≤ slice_index m.cluster.last_incarnations r) (was.up r complete) (inv.incarnations.no_later r))))

  -- THE LAW OF A CLAIM: the invariant holds after it
  pub claim_keeps : IsDead m u.owner → IsPlacedBehind m shapes s u → (IsToCommit z s.call e u.phase → ⊥) → Invariant n
  claim_keeps kept placed apart = record {
    shapes = then_shapes;
    holds = step_keeps m shapes inv s u held is then_replicas (Some then_state) same_state plain stays claimed refl owners_same done_still none_under
        (λ f f_found. (made m shapes inv s u held is at f f_found, subst (IsSpread n u.ckpt claimed) (same_Some e f (sym found ∙ f_found)) spread_then))
        (λ y it. subst (IsInHand n then_shapes (who s)) (same_Some then_state y it) (own_then kept placed apart))
        (put_complete m.cluster m.replicas u.ckpt r (with_claim s.call x) (inv.replicas u.ckpt r x there) inv.replicas);
  }
