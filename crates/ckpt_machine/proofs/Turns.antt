-- A step that changes no replica: what the call keeps changes, or it ends.
use Rattle.std.proofs.Common.{◌≡◌, ◌≢◌, ◌⊎◌, ℕ, suc, ◌<◌, ◌≤◌, ◌+◌, inl, inr, List, [], ◌∷◌, ◌++◌, length, Option, Some, None, is_some, Bool, true, false, cond, ◌==◌, refl, sym, ap, subst, ◌∙◌, arith}
use Rattle.std.specs.Prelude.{IsSomeAnd, slice_index}
use Rattle.std.proofs.lemmas.Bool.{eqb-true, eqb-false}
use Rattle.std.proofs.lemmas.Option.{same_Some}
use Rattle.ckpt_types.specs.declared.ais_error.AisError.TheVariants as errors
use Rattle.ckpt_types.specs.declared.answers.Cause.TheVariants.{Holder}
use Rattle.ckpt_types.specs.declared.answers.Outcome.TheVariants.{Refused}
use Rattle.ckpt_types.specs.declared.identities.CallId.{CallId}
use Rattle.cluster_record.specs.declared.calls.UpdatePhase.{UpdatePhase}
use Rattle.cluster_record.specs.declared.calls.UpdatePhase.TheVariants.{Staging, Committing, Claiming, Claimed, Withdrawing, Resolving}
use Rattle.cluster_record.specs.declared.entries.Entry.{Entry}
use Rattle.cluster_record.specs.Calls.{same_call}
use Rattle.cluster_record.specs.DueUpdate.{UpdateState, free_phase, update_taken}
use Rattle.cluster_record.specs.Places.{put}
use Rattle.cluster_record.specs.RecordState.{entry_of}
use Rattle.cluster_record.specs.StepDone.{StepDone, done_of, has, lacks, last_having}
use Rattle.node_msgs.specs.declared.steps.Verb.TheVariants as verbs
use Rattle.node_msgs.specs.declared.steps.StepReply.TheVariants as words
use Rattle.ckpt_machine.specs.Dead.{IsDead, is_enter}
use Rattle.ckpt_machine.specs.Drivers.{update_in}
use Rattle.ckpt_machine.specs.UpdateGuards.{ClaimFree, StageHeld}
use Rattle.ckpt_machine.specs.InHand.{IsToCommit, IsUpdateIn, PhaseKeeps, IsInHand}
use Rattle.ckpt_machine.specs.Invariant.{InvariantIn, Invariant}
use Rattle.ckpt_machine.specs.Machine.{Machine, Effect, Applied, ReplicaState, CallState, who}
use Rattle.ckpt_machine.specs.Shape.{Shape, IsCompleteOn, IsShaped, IsClaimed, AreOwn, IsOwner, IsSpread, PhaseFits}
use Rattle.ckpt_machine.specs.Due.{driver_of}
use Rattle.ckpt_machine.specs.Whose.{put_who}
use Rattle.ckpt_machine.proofs.Actors.{same_call-true, same_call-false}
use Rattle.ckpt_machine.proofs.BehindStep.{IsBehind, IsPlacedBehind, does_then, same_then, plain_then, update_then, hand_then}
use Rattle.ckpt_machine.proofs.CallsKept.{IsSameCall, same_call-None}
use Rattle.ckpt_machine.proofs.UpdateIn.{IsUpdateVerb}
use Rattle.ckpt_machine.proofs.NodeLists.{not-lacked, trichotomy, last_having-None}
use Rattle.ckpt_machine.proofs.Whose.{put_who-here, apart_states}
use Rattle.ckpt_machine.proofs.Frame.{IsDead-still, IsOwner-other, owner_back, IsMarker-still, step_keeps}
use Rattle.ckpt_machine.proofs.Owning.{spread, made, owns_had, own_phase, never_held, is_owner-here, dead_other}

module _ (m : Machine) (shapes : ℕ → Shape) (inv : InvariantIn shapes m) (s : CallState) (u : UpdateState) (held : m.in_hand (who s) ≡ Some s) (is : update_in (driver_of s) ≡ Some u) (at : IsUpdateIn m shapes s u) where
  abbrev z : Shape
  z = shapes u.ckpt

  module _ (o : Option CallState) (same : IsSameCall s o) (plain : (y : CallState) → o ≡ Some y → is_enter (driver_of y) ≡ false) where
    abbrev n : Machine
    n = record m { in_hand = put_who m.in_hand (who s) o }

    still : (c : CallId) → IsDead m c → IsDead n c
    still c it = IsDead-still m shapes inv s u held is m.replicas o same plain c it

    -- a checkpoint is as it was, where the call's own slots are its own still
    spread_still : (e : Entry) → entry_of u.ckpt m.cluster.entries ≡ Some e → ((q : ℕ) → z.owners q ≡ Some s.call → IsOwner m u.ckpt z s.call → IsOwner n u.ckpt z s.call) → IsSpread n u.ckpt z e
    spread_still e found own_still = record {
      well_formed = was.well_formed;
      nodes = was.nodes;
      some = was.some;
      up = was.up;
      active = was.active;
      replicas = was.replicas;
      fits = was.fits;
      all = was.all;
      complete = was.complete;
      lowest = was.lowest;
      first = λ q p c below full owns own. was.first q p c below full owns (owner_back m shapes inv s u held is m.replicas o same plain u.ckpt z z c (was.owned p c owns) own);
      owned = λ q c owns. elim (was.owned q c owns) [
        | inl own ↦ inl (by_test q owns own (same_call c s.call) refl)
        | inr left ↦ inr (still c left.0, still z.origin left.1)
      ];
      led = was.led;
      marked = λ marks it. IsMarker-still m shapes inv s u held is m.replicas o same plain u.ckpt marks (was.marked marks it);
      held = λ c it. absurd (never_held m shapes inv s u held is at e found c it);
    }
      where
        was : IsSpread m u.ckpt z e
        was = spread m shapes inv s u held is at e found

        by_test : {c : CallId} (q : ℕ) → z.owners q ≡ Some c → IsOwner m u.ckpt z c → (b : Bool) → same_call c s.call ≡ b → IsOwner n u.ckpt z c
        by_test {c} q owns own true it = subst (IsOwner n u.ckpt z) (sym (same_call-true c s.call it)) (own_still q (owns ∙ ap Some (same_call-true c s.call it)) (subst (IsOwner m u.ckpt z) (same_call-true c s.call it) own))
        by_test {c} q owns own false it = IsOwner-other m shapes inv s u held is m.replicas o same plain u.ckpt z c own (apart_states m.in_hand own.state s own.in_hand held (λ state. let w : true ≡ false = sym (same_refl c s.call (sym own.call_is ∙ ap (λ (x : CallState). x.call) state)) ∙ it in cc w))
          where
            same_refl : (a b : CallId) → a ≡ b → same_call a b ≡ true
            same_refl a b it = is_owner-here b (Some a) (ap Some it)

    -- the invariant holds after it
    turn_holds : ((e : Entry) → entry_of u.ckpt m.cluster.entries ≡ Some e → (q : ℕ) → z.owners q ≡ Some s.call → IsOwner m u.ckpt z s.call → IsOwner n u.ckpt z s.call) → ((y : CallState) → o ≡ Some y → IsInHand n (put shapes u.ckpt z) (who s) y) → InvariantIn (put shapes u.ckpt z) n
    turn_holds own_still own = step_keeps m shapes inv s u held is m.replicas o same plain (λ j q other. refl) z refl (λ c live other q. refl) (λ c live other it. it) (λ c live other e found owns. (refl, refl))
        (λ e found. (made m shapes inv s u held is at e found, spread_still e found (own_still e found))) own inv.replicas

    turn_keeps : ((e : Entry) → entry_of u.ckpt m.cluster.entries ≡ Some e → (q : ℕ) → z.owners q ≡ Some s.call → IsOwner m u.ckpt z s.call → IsOwner n u.ckpt z s.call) → ((y : CallState) → o ≡ Some y → IsInHand n (put shapes u.ckpt z) (who s) y) → Invariant n
    turn_keeps own_still own = record { shapes = put shapes u.ckpt z; holds = turn_holds own_still own }

  -- ---- the call ends, with no slot of it

  -- with no node of it left it owns no slot
  pub owns_none : (e : Entry) (found : entry_of u.ckpt m.cluster.entries ≡ Some e) → last_having 0 e.complete u.owned ≡ None → (q : ℕ) → z.owners q ≡ Some s.call → ⊥
  owns_none e found none q owns =
      let was = spread m shapes inv s u held is at e found in
      let had = at.owns e found q (was.complete q s.call owns) ∙ is_owner-here s.call (z.owners q) owns in
      let w : true ≡ false = sym had ∙ last_having-None 0 e.complete u.owned (at.nodes ∙ sym was.nodes) none q in cc w

  -- THE LAW OF AN END: a call that keeps no node of its checkpoint may end, however it does
  pub end_holds : ((e : Entry) → entry_of u.ckpt m.cluster.entries ≡ Some e → last_having 0 e.complete u.owned ≡ None) → InvariantIn shapes (record m { in_hand = put_who m.in_hand (who s) None })
  end_holds none = subst (λ f. InvariantIn f (record m { in_hand = put_who m.in_hand (who s) None })) (λ i j. same_shape j i)
      (turn_holds None (same_call-None s) (λ y it. absurd (cc it)) (λ e found q owns own. absurd (owns_none e found (none e found) q owns)) (λ y it. absurd (cc it)))
    where
      same_shape : (j : ℕ) → put shapes u.ckpt z j ≡ shapes j
      same_shape j = elim (j == u.ckpt) as (λ b. (j == u.ckpt) ≡ b → cond b z (shapes j) ≡ shapes j) [ true ↦ λ it. ap shapes (sym (eqb-true j u.ckpt it)) | false ↦ λ it. refl ] refl

  pub end_keeps : ((e : Entry) → entry_of u.ckpt m.cluster.entries ≡ Some e → last_having 0 e.complete u.owned ≡ None) → Invariant (record m { in_hand = put_who m.in_hand (who s) None })
  end_keeps none = record { shapes = shapes; holds = end_holds none }

  -- ---- the call goes on in another phase

  module _ (placed : IsPlacedBehind m shapes s u) (apart : (e : Entry) → entry_of u.ckpt m.cluster.entries ≡ Some e → IsToCommit z s.call e u.phase → ⊥) where
    module _ (done : StepDone) (of : IsUpdateVerb done.verb) (v : UpdateState) (v_is : update_taken done u ≡ v) (v_call : v.call ≡ u.call) (v_ckpt : v.ckpt ≡ u.ckpt) (v_owned : v.owned ≡ u.owned) (v_phase : v.phase ≢ Committing) where
      abbrev pub turned : CallState
      turned = record s { steps = done ∷ s.steps }

      turned_is : IsBehind s u turned v
      turned_is = record { step = done; of = of; call = refl; op = refl; kept = refl; begun = refl; steps = refl; update = v_is }

      same : IsSameCall s (Some turned)
      same = same_then m shapes s u is turned v turned_is

      plain : (y : CallState) → Some turned ≡ Some y → is_enter (driver_of y) ≡ false
      plain = plain_then m shapes s u is turned v turned_is

      abbrev pub then_machine : Machine
      then_machine = record m { in_hand = put_who m.in_hand (who s) (Some turned) }

      pub still_dead : (c : CallId) → IsDead m c → IsDead then_machine c
      still_dead c it = still (Some turned) same plain c it

      -- THE LAW OF A TURN: it may, where its phase fits what it owns and keeps
      pub turn_goes : ((e : Entry) → entry_of u.ckpt m.cluster.entries ≡ Some e → (q : ℕ) → z.owners q ≡ Some s.call → PhaseFits m z s u u.phase → PhaseFits then_machine z turned v v.phase) → ((e : Entry) → entry_of u.ckpt m.cluster.entries ≡ Some e → PhaseKeeps then_machine z turned v v.phase) → Invariant then_machine
      turn_goes fits keeps = turn_keeps (Some turned) same plain
          (λ e found q owns own. record { state = turned; in_hand = put_who-here m.in_hand (who s) (Some turned); call_is = refl; driver = v; driver_is = does_then m shapes s u is turned v turned_is; ckpt = v_ckpt; phase = fits e found q owns (own_phase m shapes inv s u held is at e found own) })
          (λ y it. subst (IsInHand then_machine (put shapes u.ckpt z) (who s)) (same_Some turned y it) own_then)
        where
          own_then : IsInHand then_machine (put shapes u.ckpt z) (who s) turned
          own_then = hand_then m shapes s u is turned v turned_is at m.replicas then_machine.in_hand z (inv.hands (who s) s held) placed (λ e found. inr (v_phase, apart e found))
              (update_then m shapes s u is turned v turned_is at m.replicas then_machine.in_hand z v_call v_ckpt (ap length v_owned)
              (λ e found q full. ap (λ own. has (slice_index e.complete q) (slice_index own q)) v_owned ∙ at.owns e found q full)
              keeps
              (λ e q found kept. at.within e q found (ap (λ own. has (slice_index m.cluster.up q) (slice_index own q)) (sym v_owned) ∙ kept))
              (λ q. subst (λ own. slice_index own q ≤ slice_index m.cluster.last_incarnations q) (sym v_owned) (at.no_later q)))

  -- ---- a claim finds no slot

  module _ (e : Entry) (found : entry_of u.ckpt m.cluster.entries ≡ Some e) (r : ℕ) (full : IsCompleteOn e r) (before : (q : ℕ) → q < r → lacks (slice_index e.complete q) (slice_index u.owned q) ≡ false)
      (free : z.owners r ≡ None) (x : ReplicaState) (shaped : IsShaped z None x) where
    -- the guard
    pub free_ok : ClaimFree (length x.effects) None x
    free_ok = record { free = shaped.slot; count_is = refl; answer = refl }

    -- all slots are its own
    alone : AreOwn z s.call
    alone q c owns = elim (trichotomy q r) [
      | inl below ↦ same_Some c s.call (sym owns ∙ owns_had m shapes inv s u held is at e found q (was.complete q c owns) (not-lacked (slice_index e.complete q) (slice_index u.owned q) (was.complete q c owns) (before q below)))
      | inr other ↦ absurd (elim other [
        | inl it ↦ (let w : None ≡ Some c = sym free ∙ ap z.owners (sym it) ∙ owns in cc w)
        | inr above ↦ (let w : false ≡ true = ap is_some (sym free) ∙ was.lowest r q c above full owns in cc w)
      ])
    ]
      where
        was : IsSpread m u.ckpt z e
        was = spread m shapes inv s u held is at e found

    -- the count tells whether the update is done
    done_by_count : (b : Bool) → z.done ≡ b → length x.effects ≡ length z.effects + cond b 1 0
    done_by_count true done = ap length (shaped.effects ∙ ap (λ b. cond b (z.effects ++ Applied z.origin z.update z.moment ∷ []) z.effects) done) ∙ one_more z.effects
      where
        one_more : (xs : List Effect) → length (xs ++ Applied z.origin z.update z.moment ∷ []) ≡ length xs + 1
        one_more [] = refl
        one_more (y ∷ ys) = let rest : length (ys ++ Applied z.origin z.update z.moment ∷ []) ≡ length ys + 1 = one_more ys in let goal : suc (length (ys ++ Applied z.origin z.update z.moment ∷ [])) ≡ suc (length ys) + 1 = omega (arith, rest) in goal
    done_by_count false undone = ap length (shaped.effects ∙ ap (λ b. cond b (z.effects ++ Applied z.origin z.update z.moment ∷ []) z.effects) undone) ∙ (let it : length z.effects ≡ length z.effects + 0 = omega arith in it)

    -- where it has claimed some, it withdraws, or resolves, as the update is done nowhere or where no slot is
    settled_as : (claimed : u.count ≡ length z.effects) → (b : Bool) → (length x.effects == u.count) ≡ b → z.done ≡ cond b false true
    settled_as claimed true same = by_done z.done refl
      where
        by_done : (d : Bool) → z.done ≡ d → z.done ≡ false
        by_done false undone = undone
        by_done true done = absurd (let more : length x.effects ≡ length z.effects + 1 = done_by_count true done in let a : length x.effects ≡ u.count = eqb-true (length x.effects) u.count same in let b : u.count ≡ length z.effects = claimed in omega (arith, more, a, b))
    settled_as claimed false other = by_done z.done refl
      where
        by_done : (d : Bool) → z.done ≡ d → z.done ≡ true
        by_done true done = done
        by_done false undone = absurd (eqb-false (length x.effects) u.count other (let as_many : length x.effects ≡ length z.effects + 0 = done_by_count false undone in let b : u.count ≡ length z.effects = claimed in omega (arith, as_many, b)))

    abbrev free_done : StepDone
    free_done = done_of m.cluster verbs.Claim (Some u.ckpt) (Some r) (words.Free (length x.effects))

    -- THE LAW OF A CLAIM THAT FINDS NO SLOT, where some were claimed
    pub free_keeps : (placed : IsPlacedBehind m shapes s u) → u.phase ≡ Claimed → Invariant (record m { in_hand = put_who m.in_hand (who s) (Some (record s { steps = free_done ∷ s.steps })) })
    free_keeps placed claimed = by_count (length x.effects == u.count) refl
      where
        apart : (e : Entry) → entry_of u.ckpt m.cluster.entries ≡ Some e → IsToCommit z s.call e u.phase → ⊥
        apart e found to_commit = subst (IsToCommit z s.call e) claimed to_commit

        v_is : (b : Bool) → (length x.effects == u.count) ≡ b → update_taken free_done u ≡ record u { phase = free_phase Claimed b }
        v_is b same = λ i. record u { phase = free_phase (claimed i) (same i) }

        fits_of : (b : Bool) → (length x.effects == u.count) ≡ b → (n : Machine) → ((c : CallId) → IsDead m c → IsDead n c) → PhaseFits m z s u u.phase → IsDead n z.origin × (z.done ≡ cond b false true) × AreOwn z s.call
        fits_of b same n lift fits =
            let it : IsClaimed m z u = subst (PhaseFits m z s u) claimed fits in
            (lift z.origin it.origin, settled_as it.count b same, alone)

        not_withdrawing : Withdrawing ≢ Committing
        not_withdrawing is = cc is

        not_resolving : Resolving ≢ Committing
        not_resolving is = cc is

        by_count : (b : Bool) → (length x.effects == u.count) ≡ b → Invariant (record m { in_hand = put_who m.in_hand (who s) (Some (record s { steps = free_done ∷ s.steps })) })
        by_count true same = turn_goes placed apart free_done tt (record u { phase = Withdrawing }) (v_is true same) refl refl refl not_withdrawing
            (λ f f_found q owns fits. let (origin, done, own) = fits_of true same (then_machine placed apart free_done tt (record u { phase = Withdrawing }) (v_is true same) refl refl refl not_withdrawing) (still_dead placed apart free_done tt (record u { phase = Withdrawing }) (v_is true same) refl refl refl not_withdrawing) fits in record { origin = origin; done_is = done; alone = own })
            (λ f f_found. tt)
        by_count false same = turn_goes placed apart free_done tt (record u { phase = Resolving }) (v_is false same) refl refl refl not_resolving
            (λ f f_found q owns fits. let (origin, done, own) = fits_of false same (then_machine placed apart free_done tt (record u { phase = Resolving }) (v_is false same) refl refl refl not_resolving) (still_dead placed apart free_done tt (record u { phase = Resolving }) (v_is false same) refl refl refl not_resolving) fits in record { origin = origin; done_is = done; alone = own })
            (λ f f_found. tt)

  -- ---- a claim or a stage meets the slot of a dead call

  module _ (placed : IsPlacedBehind m shapes s u) (apart : (e : Entry) → entry_of u.ckpt m.cluster.entries ≡ Some e → IsToCommit z s.call e u.phase → ⊥) (done : StepDone) (of : IsUpdateVerb done.verb) (d : CallId) where
    -- what it owns fits still, where its phase stays
    module _ (v_is : update_taken done u ≡ record u { owner = d }) (phase : (u.phase ≡ Claiming) ⊎ (u.phase ≡ Claimed)) where
      pub not_committing : u.phase ≢ Committing
      not_committing is = elim phase [
        | inl claiming ↦ let w : Claiming ≡ Committing = sym claiming ∙ is in cc w
        | inr claimed ↦ let w : Claimed ≡ Committing = sym claimed ∙ is in cc w
      ]

      abbrev then_held : Machine
      then_held = then_machine placed apart done of (record u { owner = d }) v_is refl refl refl not_committing

      abbrev then_state : CallState
      then_state = turned placed apart done of (record u { owner = d }) v_is refl refl refl not_committing

      lifted : (c : CallId) → IsDead m c → IsDead then_held c
      lifted c it = still_dead placed apart done of (record u { owner = d }) v_is refl refl refl not_committing c it

      fits_still : (ph : UpdatePhase) → PhaseFits m z s u ph → PhaseFits then_held z then_state (record u { owner = d }) ph
      fits_still Staging fits = record { origin = fits.origin; update = fits.update; moment = fits.moment; undone = fits.undone; alone = fits.alone }
      fits_still Committing fits = record { origin = fits.origin; update = fits.update; is_done = fits.is_done; alone = fits.alone }
      fits_still Claiming fits = absurd fits
      fits_still Claimed fits = record { origin = lifted z.origin fits.origin; count = fits.count }
      fits_still Withdrawing fits = record { origin = lifted z.origin fits.origin; done_is = fits.done_is; alone = fits.alone }
      fits_still Resolving fits = record { origin = lifted z.origin fits.origin; done_is = fits.done_is; alone = fits.alone }

      keeps_of : IsDead m d → (u.phase ≡ Claiming) ⊎ (u.phase ≡ Claimed) → PhaseKeeps then_held z then_state (record u { owner = d }) u.phase
      keeps_of dead (inl claiming) = subst (PhaseKeeps then_held z then_state (record u { owner = d })) (sym claiming) (lifted d dead)
      keeps_of dead (inr claimed) = subst (PhaseKeeps then_held z then_state (record u { owner = d })) (sym claimed) (lifted d dead)

      -- THE LAW OF A CLAIM THAT MEETS A THIRD CALL'S SLOT, which is dead
      pub claim_held_keeps : IsDead m d → Invariant then_held
      claim_held_keeps dead = turn_goes placed apart done of (record u { owner = d }) v_is refl refl refl not_committing (λ e found q owns fits. fits_still u.phase fits) (λ e found. keeps_of dead phase)

    pub to_claim : Claiming ≢ Committing
    to_claim is = cc is

    pub to_stage : Staging ≢ Committing
    to_stage is = cc is

    -- THE LAW OF A STAGE THAT MEETS THE SLOT OF A DEAD CALL: the call keeps no node, and is to claim
    pub stage_held_keeps : (v_is : update_taken done u ≡ record u { phase = Claiming; owner = d }) → IsDead m d → ((e : Entry) → entry_of u.ckpt m.cluster.entries ≡ Some e → last_having 0 e.complete u.owned ≡ None) → Invariant (then_machine placed apart done of (record u { phase = Claiming; owner = d }) v_is refl refl refl to_claim)
    stage_held_keeps v_is dead none = turn_goes placed apart done of (record u { phase = Claiming; owner = d }) v_is refl refl refl to_claim (λ e found q owns fits. absurd (owns_none e found (none e found) q owns)) (λ e found. still_dead placed apart done of (record u { phase = Claiming; owner = d }) v_is refl refl refl to_claim d dead)

    -- THE LAW OF A CLAIM THAT FINDS NO SLOT AT ONCE: the call keeps no node, and is to stage
    pub free_at_once_keeps : (v_is : update_taken done u ≡ record u { phase = Staging }) → ((e : Entry) → entry_of u.ckpt m.cluster.entries ≡ Some e → last_having 0 e.complete u.owned ≡ None) → Invariant (then_machine placed apart done of (record u { phase = Staging }) v_is refl refl refl to_stage)
    free_at_once_keeps v_is none = turn_goes placed apart done of (record u { phase = Staging }) v_is refl refl refl to_stage (λ e found q owns fits. absurd (owns_none e found (none e found) q owns)) (λ e found. tt)

  -- the guard of both: the call goes on
  pub held_ok : (d : CallId) (x : ReplicaState) → IsSomeAnd x.slot (λ slot. slot.owner ≡ d) → IsDead m d → StageHeld m s.call d None x
  held_ok d x owner dead = record { owner = owner; another = same_call-false d s.call (dead_other m shapes inv s u held is at d dead); answer = sym (ap (λ b. cond b (Some (Refused errors.TryAgain (Holder d))) None) dead.gone) }
