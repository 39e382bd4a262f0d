-- A stage at the lowest complete node that the call lacks, where no slot stands.
use Rattle.std.proofs.Common.{◌≡◌, ◌≢◌, ◌⊎◌, ℕ, ◌<◌, ◌≤◌, inl, inr, List, [], ◌∷◌, ◌++◌, length, Option, Some, None, is_some, true, false, cond, ◌==◌, ◌&&◌, Ok, ℤ, refl, sym, ap, subst, ◌∙◌, arith}
use Rattle.std.specs.Prelude.{IsSomeAnd, slice_index, slice_set, is_ok}
use Rattle.std.proofs.lemmas.Bool.{eqb-true, eq-eqb}
use Rattle.std.proofs.lemmas.Option.{same_Some}
use Rattle.ckpt_types.specs.declared.identities.CallId.{CallId}
use Rattle.ckpt_types.specs.Asks.{update_of}
use Rattle.ckpt_types.specs.Sections.{Section}
use Rattle.ckpt_types.specs.Updates.{outcome}
use Rattle.cluster_record.specs.declared.calls.UpdatePhase.TheVariants.{Staging}
use Rattle.cluster_record.specs.declared.entries.Entry.{Entry}
use Rattle.cluster_record.specs.DueUpdate.{UpdateState, kept_moment}
use Rattle.cluster_record.specs.Places.{put, put2}
use Rattle.cluster_record.specs.RecordState.{entry_of, complete_of, is_live}
use Rattle.cluster_record.specs.StepDone.{StepDone, done_of, has, lacks, last_having}
use Rattle.node_msgs.specs.declared.steps.Verb.TheVariants as verbs
use Rattle.node_msgs.specs.declared.steps.StepReply.TheVariants as words
use Rattle.ckpt_machine.specs.Dead.{is_enter}
use Rattle.ckpt_machine.specs.Drivers.{update_in}
use Rattle.ckpt_machine.specs.GuardTerms.{IfSlot}
use Rattle.ckpt_machine.specs.UpdateGuards.{StageOk}
use Rattle.ckpt_machine.specs.InHand.{IsDoneIn, IsToCommit, IsUpdateIn, IsInHand}
use Rattle.ckpt_machine.specs.Invariant.{InvariantIn, Invariant}
use Rattle.ckpt_machine.specs.Machine.{Machine, Applied, ReplicaState, CallState, who}
use Rattle.ckpt_machine.specs.Owned.{HasUpdate}
use Rattle.ckpt_machine.specs.Shape.{Shape, IsCompleteOn, IsShaped, IsShapedBy, AreOwn, IsStaging, is_owner, IsOwner, IsSpread, PhaseFits, slot_by, sections_by, effects_by}
use Rattle.ckpt_machine.specs.Due.{driver_of}
use Rattle.ckpt_machine.specs.After.{with_slot, staged_moment}
use Rattle.ckpt_machine.specs.Whose.{put_who}
use Rattle.ckpt_machine.proofs.Actors.{same_call-refl}
use Rattle.ckpt_machine.proofs.BehindStep.{IsBehind, IsPlacedBehind, does_then, same_then, plain_then, set_within, set_no_later, update_then, hand_then}
use Rattle.ckpt_machine.proofs.CallsKept.{IsSameCall}
use Rattle.ckpt_machine.proofs.NodeLists.{index-set, index-other, length-slice_set, index-within, has-itself, had-there, not-lacked}
use Rattle.ckpt_machine.proofs.Whose.{put_who-here}
use Rattle.ckpt_machine.proofs.Frame.{OwnsAll, LiesSame, IsMarker-still, step_keeps}
use Rattle.ckpt_machine.proofs.OnComplete.{IfSome-more, on_complete}
use Rattle.ckpt_machine.proofs.OnComplete.{put_complete}
use Rattle.ckpt_machine.proofs.Owning.{spread, made, is_owner-not, owns_had, own_phase, own_owner, all_is, never_held}
use Rattle.ckpt_machine.proofs.StagedMoment.{none_owned, moment_first, moment_later}

-- the shape is of the call's own update, which has an outcome, and which no replica has
pub record Stages (w z : Shape) (s : CallState) (t : ℤ) (e : Entry) : Type 0 where
  pub owners : w.owners ≡ z.owners
  pub marks : w.marks ≡ z.marks
  pub origin : w.origin ≡ s.call
  pub update : w.update ≡ update_of s.op
  pub moment : w.moment ≡ t
  pub undone : w.done ≡ false
  pub alone : AreOwn w s.call
  pub gives : outcome e.attributes (update_of s.op) t w.sections ≡ Ok w.outcome

pub effects-undone : (z : Shape) (o : Option CallId) → z.done ≡ false → effects_by z o ≡ z.effects
effects-undone z None undone = ap (λ b. cond b (z.effects ++ Applied z.origin z.update z.moment ∷ []) z.effects) undone
effects-undone z (Some d) undone = refl

pub sections-undone : (z : Shape) (o : Option CallId) → z.done ≡ false → sections_by z o ≡ z.sections
sections-undone z None undone = ap (λ b. cond b z.outcome z.sections) undone
sections-undone z (Some d) undone = refl

-- who owns the others is not asked of a replica
pub IsShaped-owners : (z : Shape) (f : ℕ → Option CallId) (o : Option CallId) (x : ReplicaState) → IsShaped z o x → IsShaped (record z { owners = f }) o x
IsShaped-owners z f None x is = record { slot = is.slot; sections = is.sections; effects = is.effects; unmarked = is.unmarked }
IsShaped-owners z f (Some d) x is = record { slot = is.slot; sections = is.sections; effects = is.effects; unmarked = is.unmarked }

module _ (m : Machine) (shapes : ℕ → Shape) (inv : InvariantIn shapes m) (s : CallState) (u : UpdateState) (held : m.in_hand (who s) ≡ Some s) (is : update_in (driver_of s) ≡ Some u) (at : IsUpdateIn m shapes s u)
    (e : Entry) (found : entry_of u.ckpt m.cluster.entries ≡ Some e) (r : ℕ) (full_r : IsCompleteOn e r) (before : (q : ℕ) → q < r → lacks (slice_index e.complete q) (slice_index u.owned q) ≡ false) (free : (shapes u.ckpt).owners r ≡ None) where
  abbrev z : Shape
  z = shapes u.ckpt

  abbrev was : IsSpread m u.ckpt z e
  was = spread m shapes inv s u held is at e found

  -- below it all is its own
  own_under : (q : ℕ) → q < r → IsCompleteOn e q → z.owners q ≡ Some s.call
  own_under q below there = owns_had m shapes inv s u held is at e found q there (not-lacked (slice_index e.complete q) (slice_index u.owned q) there (before q below))

  module _ (w : Shape) (t : ℤ) (stages : Stages w z s t e) (mom : staged_moment m u.ckpt ≡ t) (moment_is : kept_moment (last_having 0 e.complete u.owned) m.cluster.moment u.moment ≡ t)
      (shaped_w : (q : ℕ) → IsCompleteOn e q → IsSomeAnd (m.replicas u.ckpt q) (IsShaped w (z.owners q))) (under_w : (y : CallState) → HasUpdate y.call (update_of y.op) (effects_by z None) → HasUpdate y.call (update_of y.op) w.effects)
      (x : ReplicaState) (there : m.replicas u.ckpt r ≡ Some x) (shaped : IsShaped w None x) where
    own_alone : (q : ℕ) (c : CallId) → z.owners q ≡ Some c → c ≡ s.call
    own_alone q c owns = stages.alone q c (ap (λ (f : ℕ → Option CallId). f q) stages.owners ∙ owns)

    -- the guard
    slots_own : (o : Option CallId) → ((c : CallId) → o ≡ Some c → c ≡ s.call) → IfSlot (slot_by w o) (λ slot. slot ≡ record { owner = s.call; origin = s.call; update = update_of s.op; moment = staged_moment m u.ckpt })
    slots_own None mine = tt
    slots_own (Some c) mine =
        let owner = mine c refl in
        let moment = stages.moment ∙ sym mom in
        λ i. record { owner = owner i; origin = stages.origin i; update = stages.update i; moment = moment i }

    pub stage_ok : StageOk m s.call (update_of s.op) u.ckpt e x
    stage_ok = record {
      free = shaped.slot;
      fits = (let gives : outcome e.attributes (update_of s.op) (staged_moment m u.ckpt) x.sections ≡ Ok w.outcome = (λ i. outcome e.attributes (update_of s.op) (mom i) ((shaped.sections ∙ sections-undone w None stages.undone) i)) ∙ stages.gives in ap is_ok gives);
      same_effects = on_complete m u.ckpt e found (λ y. y.effects ≡ x.effects) (λ q full. IfSome-more (m.replicas u.ckpt q) (IsShaped w (z.owners q)) (λ y. y.effects ≡ x.effects) (λ y it. it.effects ∙ effects-undone w (z.owners q) stages.undone ∙ sym (shaped.effects ∙ effects-undone w None stages.undone)) (shaped_w q full));
      only_own = on_complete m u.ckpt e found (λ y. IfSlot y.slot (λ slot. slot ≡ record { owner = s.call; origin = s.call; update = update_of s.op; moment = staged_moment m u.ckpt })) (λ q full. IfSome-more (m.replicas u.ckpt q) (IsShaped w (z.owners q)) (λ y. IfSlot y.slot (λ slot. slot ≡ record { owner = s.call; origin = s.call; update = update_of s.op; moment = staged_moment m u.ckpt }))
          (λ y it. subst (λ o. IfSlot o (λ slot. slot ≡ record { owner = s.call; origin = s.call; update = update_of s.op; moment = staged_moment m u.ckpt })) (sym it.slot) (slots_own (z.owners q) (λ c owns. own_alone q c owns))) (shaped_w q full));
    }

    -- ---- the state after it

    abbrev staged : Shape
    staged = record w { owners = put z.owners r (Some s.call) }

    abbrev pub stage_done : StepDone
    stage_done = done_of m.cluster verbs.Stage (Some u.ckpt) (Some r) words.Ok

    abbrev pub then_state : CallState
    then_state = record s { steps = stage_done ∷ s.steps }

    abbrev then_driver : UpdateState
    then_driver = record u { owned = slice_set u.owned r (slice_index e.complete r); moment = t; phase = Staging }

    abbrev with_stage : ReplicaState
    with_stage = with_slot s.call (update_of s.op) (staged_moment m u.ckpt) x

    abbrev then_replicas : ℕ → ℕ → Option ReplicaState
    then_replicas = put2 m.replicas u.ckpt r (Some with_stage)

    abbrev pub n : Machine
    n = record m { replicas = then_replicas; in_hand = put_who m.in_hand (who s) (Some then_state) }

    then_is : IsBehind s u then_state then_driver
    then_is = record {
      step = stage_done;
      of = tt;
      call = refl;
      op = refl;
      kept = refl;
      begun = refl;
      steps = refl;
      update =
          ap (λ o. record u { owned = slice_set u.owned r (slice_index (complete_of o) r); moment = kept_moment (last_having 0 (complete_of o) u.owned) m.cluster.moment u.moment; phase = Staging }) found
          ∙ ap (λ i. record u { owned = slice_set u.owned r (slice_index e.complete r); moment = i; phase = Staging }) moment_is;
    }

    driver_then : update_in (driver_of then_state) ≡ Some then_driver
    driver_then = does_then m shapes s u is then_state then_driver then_is

    same_state : IsSameCall s (Some then_state)
    same_state = same_then m shapes s u is then_state then_driver then_is

    plain : (y : CallState) → Some then_state ≡ Some y → is_enter (driver_of y) ≡ false
    plain = plain_then m shapes s u is then_state then_driver then_is

    owner_cases : (q : ℕ) (c : CallId) → staged.owners q ≡ Some c → ((q ≡ r) ⊎ (((q == r) ≡ false) × (z.owners q ≡ Some c))) × (c ≡ s.call)
    owner_cases q c has_it = elim (q == r) as (λ b. (q == r) ≡ b → cond b (Some s.call) (z.owners q) ≡ Some c → ((q ≡ r) ⊎ ((b ≡ false) × (z.owners q ≡ Some c))) × (c ≡ s.call)) [
      | true ↦ λ same here. (inl (eqb-true q r same), sym (same_Some s.call c here))
      | false ↦ λ other it. (inr (refl, it), own_alone q c it)
    ] refl has_it

    staged_if : (q : ℕ) → z.owners q ≡ Some s.call → staged.owners q ≡ Some s.call
    staged_if q owns = elim (q == r) as (λ b. cond b (Some s.call) (z.owners q) ≡ Some s.call) [ true ↦ refl | false ↦ owns ]

    -- below one all are
    own_below : (q p : ℕ) (c : CallId) → q < p → IsCompleteOn e q → staged.owners p ≡ Some c → staged.owners q ≡ Some s.call
    own_below q p c below full has_it = staged_if q (elim (owner_cases p c has_it).0 [
      | inl here ↦ own_under q (let b : q < p = below in let p_is : p ≡ r = here in omega (arith, b, p_is)) full
      | inr it ↦ by_owner (z.owners q) refl (was.lowest q p c below full it.1)
    ])
      where
        by_owner : (o : Option CallId) → z.owners q ≡ o → is_some o ≡ true → z.owners q ≡ Some s.call
        by_owner None none some = absurd (cc some)
        by_owner (Some d) is_d some = is_d ∙ ap Some (own_alone q d is_d)

    owner_then : IsOwner n u.ckpt staged s.call
    owner_then = record {
      state = then_state;
      in_hand = put_who-here m.in_hand (who s) (Some then_state);
      call_is = refl;
      driver = then_driver;
      driver_is = driver_then;
      ckpt = refl;
      phase = record { origin = stages.origin; update = stages.update; moment = stages.moment; undone = stages.undone; alone = λ q c has_it. (owner_cases q c has_it).1 };
    }

    shaped_then : (q : ℕ) → IsCompleteOn e q → IsSomeAnd (then_replicas u.ckpt q) (IsShaped staged (staged.owners q))
    shaped_then q full =
        subst (λ b. IsSomeAnd (cond (b && (q == r)) (Some with_stage) (m.replicas u.ckpt q)) (IsShaped staged (staged.owners q))) (sym (eq-eqb u.ckpt u.ckpt refl))
        (elim (q == r) as (λ b. IsSomeAnd (cond b (Some with_stage) (m.replicas u.ckpt q)) (IsShaped staged (cond b (Some s.call) (z.owners q)))) [
          | true ↦ record {
            slot = (let moment = mom ∙ sym stages.moment in λ i. Some (record { owner = s.call; origin = sym stages.origin i; update = sym stages.update i; moment = moment i }));
            sections = shaped.sections ∙ sections-undone w None stages.undone;
            effects = shaped.effects ∙ effects-undone w None stages.undone;
            unmarked = shaped.unmarked;
          }
          | false ↦ each (m.replicas u.ckpt q) (shaped_w q full)
        ])
      where
        each : (o : Option ReplicaState) → IsSomeAnd o (IsShaped w (z.owners q)) → IsSomeAnd o (IsShaped staged (z.owners q))
        each None is = absurd is
        each (Some y) is = IsShaped-owners w staged.owners (z.owners q) y is

    spread_then : IsSpread n u.ckpt staged e
    spread_then = record {
      well_formed = was.well_formed;
      nodes = was.nodes;
      some = was.some;
      up = was.up;
      active = was.active;
      replicas = λ q full. subst (λ b. IsSomeAnd (then_replicas u.ckpt q) (IsShapedBy b staged e.active q)) (sym (all_is m shapes inv s u held is at e found)) (shaped_then q full);
      fits = λ q c has_it. (λ i. outcome e.attributes (stages.update i) (stages.moment i) w.sections) ∙ stages.gives;
      all = λ q c has_it. all_is m shapes inv s u held is at e found;
      complete = λ q c has_it. elim (owner_cases q c has_it).0 [
        | inl here ↦ subst (IsCompleteOn e) (sym here) full_r
        | inr it ↦ was.complete q c it.1
      ];
      lowest = λ q p c below full has_it. ap is_some (own_below q p c below full has_it);
      first = λ q p c below full has_it own. own_below q p c below full has_it ∙ ap Some (sym (owner_cases p c has_it).1);
      owned = λ q c has_it. inl (subst (IsOwner n u.ckpt staged) (sym (owner_cases q c has_it).1) owner_then);
      led = λ marks it. was.led marks (sym stages.marks ∙ it);
      marked = λ marks it. IsMarker-still m shapes inv s u held is then_replicas (Some then_state) same_state plain u.ckpt marks (was.marked marks (sym stages.marks ∙ it));
      held = λ c it. absurd (never_held m shapes inv s u held is at e found c it);
    }

    stays : (j q : ℕ) → (j == u.ckpt) ≡ false → then_replicas j q ≡ m.replicas j q
    stays j q other = ap (λ b. cond (b && (q == r)) (Some with_stage) (m.replicas j q)) other

    owners_same : (c : CallId) → is_live m.cluster c ≡ true → c ≢ s.call → (q : ℕ) → is_owner c (staged.owners q) ≡ is_owner c (z.owners q)
    owners_same c live other q = elim (q == r) as (λ b. (q == r) ≡ b → is_owner c (cond b (Some s.call) (z.owners q)) ≡ is_owner c (z.owners q)) [
      | true ↦ λ same. is_owner-not c s.call (λ it. other (sym it)) ∙ sym (ap (is_owner c) (ap z.owners (eqb-true q r same) ∙ free))
      | false ↦ λ same. refl
    ] refl

    done_still : (y : CallState) → is_live m.cluster y.call ≡ true → y.call ≢ s.call → IsDoneIn z y → IsDoneIn staged y
    done_still y live other it = record {
      free = subst (HasUpdate y.call (update_of y.op)) (sym (effects-undone w None stages.undone)) (under_w y it.free);
      under = λ q c has_it apart. under_w y it.free;
    }

    abbrev then_shapes : ℕ → Shape
    then_shapes = put shapes u.ckpt staged

    owns_then : (q : ℕ) → IsCompleteOn e q → has (slice_index e.complete q) (slice_index (slice_set u.owned r (slice_index e.complete r)) q) ≡ is_owner s.call (staged.owners q)
    owns_then q full = elim (q == r) as (λ b. (q == r) ≡ b → has (slice_index e.complete q) (slice_index (slice_set u.owned r (slice_index e.complete r)) q) ≡ is_owner s.call (cond b (Some s.call) (z.owners q))) [
      | true ↦ λ same.
          let within : r < length u.owned = subst (λ (i : ℕ). r < i) (was.nodes ∙ sym at.nodes) (index-within e.complete r full_r) in
          subst (λ (p : ℕ). has (slice_index e.complete p) (slice_index (slice_set u.owned r (slice_index e.complete r)) p) ≡ is_owner s.call (Some s.call)) (sym (eqb-true q r same))
          (ap (has (slice_index e.complete r)) (index-set u.owned r (slice_index e.complete r) within) ∙ has-itself (slice_index e.complete r) full_r ∙ sym (same_call-refl s.call))
      | false ↦ λ other. ap (has (slice_index e.complete q)) (index-other u.owned r q (slice_index e.complete r) other) ∙ at.owns e found q full
    ] refl

    within_r : r < length u.owned
    within_r = subst (λ (i : ℕ). r < i) (was.nodes ∙ sym at.nodes) (index-within e.complete r full_r)

    -- no other call owns the slot of each complete node, since that of this one is free
    none_under : (c : CallId) → is_live m.cluster c ≡ true → c ≢ s.call → (f : Entry) → entry_of u.ckpt m.cluster.entries ≡ Some f → OwnsAll z f c → LiesSame staged z
    none_under c live other f f_found owns = absurd (let w : None ≡ Some c = sym free ∙ owns r (subst (λ (g : Entry). IsCompleteOn g r) (same_Some e f (sym found ∙ f_found)) full_r) in cc w)

    own_then : IsPlacedBehind m shapes s u → (IsToCommit z s.call e u.phase → ⊥) → IsInHand n then_shapes (who s) then_state
    own_then placed apart = hand_then m shapes s u is then_state then_driver then_is at then_replicas n.in_hand staged (inv.hands (who s) s held) placed
        (λ f f_found. inr (λ it. cc it, subst (λ (g : Entry). IsToCommit z s.call g u.phase → ⊥) (same_Some e f (sym found ∙ f_found)) apart))
        (update_then m shapes s u is then_state then_driver then_is at then_replicas n.in_hand staged refl refl (length-slice_set u.owned r (slice_index e.complete r))
        (λ f f_found q full. subst (λ (g : Entry). IsCompleteOn g q → has (slice_index g.complete q) (slice_index (slice_set u.owned r (slice_index e.complete r)) q) ≡ is_owner s.call (staged.owners q)) (same_Some e f (sym found ∙ f_found)) (owns_then q) full)
        (λ f f_found. tt)
        (λ f q f_found. set_within m shapes s u at r (slice_index e.complete r) within_r f f_found (inr (subst (λ (g : Entry). IsCompleteOn g r) (same_Some e f (sym found ∙ f_found)) full_r)) q)
        (set_no_later m shapes s u at r (slice_index e.complete r) within_r (subst (λ (i : ℕ). i ≤ slice_index m.cluster.last_incarnations r) (was.up r full_r) (inv.incarnations.no_later r))))

    -- the invariant holds after it
    pub stage_keeps : IsPlacedBehind m shapes s u → (IsToCommit z s.call e u.phase → ⊥) → Invariant n
    stage_keeps placed apart = record {
      shapes = then_shapes;
      holds = step_keeps m shapes inv s u held is then_replicas (Some then_state) same_state plain stays staged stages.marks owners_same done_still none_under
          (λ f f_found. (made m shapes inv s u held is at f f_found, subst (IsSpread n u.ckpt staged) (same_Some e f (sym found ∙ f_found)) spread_then))
          (λ y it. subst (IsInHand n then_shapes (who s)) (same_Some then_state y it) (own_then placed apart))
          (put_complete m.cluster m.replicas u.ckpt r with_stage (inv.replicas u.ckpt r x there) inv.replicas);
    }

  -- ---- THE LAW OF A FIRST STAGE: it adopts what the replicas have

  module _ (none : last_having 0 e.complete u.owned ≡ None) (sections : List Section) (x : ReplicaState) (there : m.replicas u.ckpt r ≡ Some x) (shaped : IsShaped z None x) (gives : outcome e.attributes (update_of s.op) m.cluster.moment x.sections ≡ Ok sections) where
    abbrev pub adopted : Shape
    adopted = record { owners = z.owners; origin = s.call; update = update_of s.op; moment = m.cluster.moment; sections = sections_by z None; effects = effects_by z None; outcome = sections; done = false; marks = z.marks }

    nobody : (q : ℕ) → z.owners q ≡ None
    nobody = none_owned m shapes inv s u held is at e found r full_r before none free

    pub adopts : Stages adopted z s m.cluster.moment e
    adopts = record { owners = refl; marks = refl; origin = refl; update = refl; moment = refl; undone = refl; alone = λ q c owns. absurd (let v : None ≡ Some c = sym (nobody q) ∙ owns in cc v); gives = ap (outcome e.attributes (update_of s.op) m.cluster.moment) (sym shaped.sections) ∙ gives }

    pub adopted_none : (y : ReplicaState) → IsShaped z None y → IsShaped adopted None y
    adopted_none y it = record { slot = it.slot; sections = it.sections; effects = it.effects; unmarked = it.unmarked }

    pub adopted_at : (q : ℕ) → IsCompleteOn e q → IsSomeAnd (m.replicas u.ckpt q) (IsShaped adopted (z.owners q))
    adopted_at q full = each (m.replicas u.ckpt q) (subst (λ b. IsSomeAnd (m.replicas u.ckpt q) (IsShapedBy b z e.active q)) (all_is m shapes inv s u held is at e found) (was.replicas q full))
      where
        each : (o : Option ReplicaState) → IsSomeAnd o (IsShaped z (z.owners q)) → IsSomeAnd o (IsShaped adopted (z.owners q))
        each None is = absurd is
        each (Some y) is = subst (λ o. IsShaped adopted o y) (sym (nobody q)) (adopted_none y (subst (λ o. IsShaped z o y) (nobody q) is))

    pub mom_first : staged_moment m u.ckpt ≡ m.cluster.moment
    mom_first = moment_first m shapes inv s u held is at e found r full_r before none free

    pub kept_first : kept_moment (last_having 0 e.complete u.owned) m.cluster.moment u.moment ≡ m.cluster.moment
    kept_first = ap (λ o. kept_moment o m.cluster.moment u.moment) none

    pub first_stage_ok : StageOk m s.call (update_of s.op) u.ckpt e x
    first_stage_ok = stage_ok adopted m.cluster.moment adopts mom_first kept_first adopted_at (λ y it. it) x there (adopted_none x shaped)

    pub first_stage_keeps : IsPlacedBehind m shapes s u → (IsToCommit z s.call e u.phase → ⊥) → Invariant (n adopted m.cluster.moment adopts mom_first kept_first adopted_at (λ y it. it) x there (adopted_none x shaped))
    first_stage_keeps = stage_keeps adopted m.cluster.moment adopts mom_first kept_first adopted_at (λ y it. it) x there (adopted_none x shaped)

  -- ---- THE LAW OF A LATER STAGE

  module _ (staging : u.phase ≡ Staging) (p : ℕ) (some : last_having 0 e.complete u.owned ≡ Some p) (had : has (slice_index e.complete p) (slice_index u.owned p) ≡ true) (x : ReplicaState) (there : m.replicas u.ckpt r ≡ Some x) (shaped : IsShaped z None x) where
    owner_p : z.owners p ≡ Some s.call
    owner_p = owns_had m shapes inv s u held is at e found p (had-there (slice_index e.complete p) (slice_index u.owned p) had) had

    fits_p : IsStaging z s u
    fits_p = subst (PhaseFits m z s u) staging (own_phase m shapes inv s u held is at e found (own_owner m shapes inv s u held is at e found p owner_p))

    pub stages_p : Stages z z s u.moment e
    stages_p = record { owners = refl; marks = refl; origin = fits_p.origin; update = fits_p.update; moment = fits_p.moment; undone = fits_p.undone; alone = fits_p.alone; gives = (λ i. outcome e.attributes (sym fits_p.update i) (sym fits_p.moment i) z.sections) ∙ was.fits p s.call owner_p }

    pub shaped_z : (q : ℕ) → IsCompleteOn e q → IsSomeAnd (m.replicas u.ckpt q) (IsShaped z (z.owners q))
    shaped_z q full = subst (λ b. IsSomeAnd (m.replicas u.ckpt q) (IsShapedBy b z e.active q)) (all_is m shapes inv s u held is at e found) (was.replicas q full)

    pub mom_later : staged_moment m u.ckpt ≡ u.moment
    mom_later = moment_later m shapes inv s u held is at e found staging p had

    pub kept_later : kept_moment (last_having 0 e.complete u.owned) m.cluster.moment u.moment ≡ u.moment
    kept_later = ap (λ o. kept_moment o m.cluster.moment u.moment) some

    pub under_z : (y : CallState) → HasUpdate y.call (update_of y.op) (effects_by z None) → HasUpdate y.call (update_of y.op) z.effects
    under_z y it = subst (HasUpdate y.call (update_of y.op)) (effects-undone z None fits_p.undone) it

    pub later_stage_ok : StageOk m s.call (update_of s.op) u.ckpt e x
    later_stage_ok = stage_ok z u.moment stages_p mom_later kept_later shaped_z under_z x there shaped

    pub later_stage_keeps : IsPlacedBehind m shapes s u → (IsToCommit z s.call e u.phase → ⊥) → Invariant (n z u.moment stages_p mom_later kept_later shaped_z under_z x there shaped)
    later_stage_keeps = stage_keeps z u.moment stages_p mom_later kept_later shaped_z under_z x there shaped
