-- The two ends of an update that was cut short: it is withdrawn, or it is committed.
use Rattle.std.proofs.Common.{◌≡◌, ◌≢◌, ◌⊎◌, ℕ, ◌<◌, inl, inr, List, [], ◌∷◌, ◌++◌, Option, Some, None, Bool, true, false, not, cond, ◌==◌, ◌&&◌, refl, sym, ap, subst, ◌∙◌}
use Rattle.std.specs.Prelude.{IsSomeAnd, slice_index, slice_set}
use Rattle.ckpt_types.specs.declared.answers.Outcome.TheVariants.{Done}
use Rattle.ckpt_types.specs.declared.identities.CallId.{CallId}
use Rattle.ckpt_types.specs.Asks.{update_of}
use Rattle.ckpt_types.specs.Updates.{outcome}
use Rattle.cluster_record.specs.declared.calls.UpdatePhase.TheVariants.{Withdrawing, Resolving}
use Rattle.cluster_record.specs.declared.entries.Entry.{Entry}
use Rattle.cluster_record.specs.Calls.{same_call}
use Rattle.cluster_record.specs.DueUpdate.{UpdateState, committing}
use Rattle.cluster_record.specs.Places.{put2}
use Rattle.cluster_record.specs.RecordState.{entry_of}
use Rattle.node_core.specs.Serving.{update_answer, told_id}
use Rattle.ckpt_machine.specs.Whose.{put_who}
use Rattle.cluster_record.specs.StepDone.{StepDone, done_of, has}
use Rattle.node_msgs.specs.declared.details.Details.TheVariants as beside
use Rattle.node_msgs.specs.declared.steps.Verb.TheVariants as verbs
use Rattle.node_msgs.specs.declared.steps.StepReply.TheVariants as words
use Rattle.replica.specs.Replicas.{or_same}
use Rattle.ckpt_machine.specs.Complete.{complete_replicas}
use Rattle.ckpt_machine.specs.Dead.{IsDead}
use Rattle.ckpt_machine.specs.Drivers.{update_in}
use Rattle.ckpt_machine.specs.InHand.{IsToCommit, IsUpdateIn}
use Rattle.ckpt_machine.specs.GuardTerms.{owned_elsewhere}
use Rattle.ckpt_machine.specs.UpdateGuards.{WithdrawOk, CommitOk, HasSlotOrEffect}
use Rattle.ckpt_machine.specs.Invariant.{InvariantIn, Invariant}
use Rattle.ckpt_machine.specs.Machine.{Machine, Effect, Applied, Staged, ReplicaState, CallState, who}
use Rattle.ckpt_machine.specs.Owned.{HasUpdate}
use Rattle.ckpt_machine.specs.Shape.{Shape, IsCompleteOn, IsShaped, IsShapedBy, AreOwn, IsSettling, IsSpread, effects_by}
use Rattle.ckpt_machine.specs.Due.{driver_of}
use Rattle.ckpt_machine.specs.After.{without_slot, committed_slot, effect_of, created_by}
use Rattle.ckpt_machine.proofs.Commit.{HasUpdate-front}
use Rattle.ckpt_machine.proofs.Actors.{same_call-false}
use Rattle.ckpt_machine.proofs.BehindStep.{IsBehind, IsPlacedBehind, resolving_apart}
use Rattle.ckpt_machine.proofs.OnComplete.{IfSome-more, on_complete}
use Rattle.ckpt_machine.proofs.Owning.{spread, all_is, dead_other}
use Rattle.ckpt_machine.proofs.LetGo.{after_it, own_r, still, let_go_keeps}

-- a list is not one with an element more
longer : (xs : List Effect) (a : Effect) → xs ≢ xs ++ a ∷ []
longer [] a same = absurd (cc same)
longer (x ∷ xs) a same = let rest : xs ≡ xs ++ a ∷ [] = cc same in longer xs a rest

module _ (m : Machine) (shapes : ℕ → Shape) (inv : InvariantIn shapes m) (s : CallState) (u : UpdateState) (held : m.in_hand (who s) ≡ Some s) (is : update_in (driver_of s) ≡ Some u) (at : IsUpdateIn m shapes s u)
    (e : Entry) (found : entry_of u.ckpt m.cluster.entries ≡ Some e) (r : ℕ) (had : has (slice_index e.complete r) (slice_index u.owned r) ≡ true) (behind : (q : ℕ) → r < q → has (slice_index e.complete q) (slice_index u.owned q) ≡ false)
    (x : ReplicaState) (there : m.replicas u.ckpt r ≡ Some x) (shaped : IsShaped (shapes u.ckpt) (Some s.call) x) where
  abbrev z : Shape
  z = shapes u.ckpt

  abbrev was : IsSpread m u.ckpt z e
  was = spread m shapes inv s u held is at e found

  abbrev own_slot : Staged
  own_slot = record { owner = s.call; origin = z.origin; update = z.update; moment = z.moment }

  shaped_at : (q : ℕ) → IsCompleteOn e q → IsSomeAnd (m.replicas u.ckpt q) (IsShaped z (z.owners q))
  shaped_at q full = subst (λ b. IsSomeAnd (m.replicas u.ckpt q) (IsShapedBy b z e.active q)) (all_is m shapes inv s u held is at e found) (was.replicas q full)

  -- ---- it is withdrawn

  module _ (settles : IsSettling m z s false) where
    effects_under : (o : Option CallId) → effects_by z o ≡ z.effects
    effects_under None = ap (λ b. cond b (z.effects ++ Applied z.origin z.update z.moment ∷ []) z.effects) settles.done_is
    effects_under (Some d) = refl

    -- the guard
    pub withdraw_ok : WithdrawOk m s.call u.ckpt None x
    withdraw_ok = record {
      slot = own_slot;
      staged = shaped.slot;
      owner = refl;
      origin = settles.origin.gone;
      none_has = on_complete m u.ckpt e found (λ y. y.effects ≢ x.effects ++ effect_of own_slot ∷ []) (λ q full. IfSome-more (m.replicas u.ckpt q) (IsShaped z (z.owners q)) (λ y. y.effects ≢ x.effects ++ effect_of own_slot ∷ [])
          (λ y is same. longer x.effects (effect_of own_slot) (shaped.effects ∙ sym (effects_under (z.owners q)) ∙ sym is.effects ∙ same)) (shaped_at q full));
      answer = refl;
    }

    abbrev pub withdraw_done : StepDone
    withdraw_done = done_of m.cluster verbs.Withdraw (Some u.ckpt) (Some r) words.Ok

    abbrev pub withdrawn_state : CallState
    withdrawn_state = record s { steps = withdraw_done ∷ s.steps }

    withdrawn_is : IsBehind s u withdrawn_state (record u { owned = slice_set u.owned r 0; phase = Withdrawing })
    withdrawn_is = record { step = withdraw_done; of = tt; call = refl; op = refl; kept = refl; begun = refl; steps = refl; update = refl }

    shaped_none : IsShaped (after_it m shapes inv s u held is at e found r had behind settles.alone x there false) None (without_slot x)
    shaped_none = record { slot = refl; sections = shaped.sections; effects = shaped.effects; unmarked = shaped.unmarked }

    others : (q : ℕ) → IsCompleteOn e q → z.owners q ≡ None → (w : ReplicaState) → IsShaped z None w → IsShaped (after_it m shapes inv s u held is at e found r had behind settles.alone x there false) None w
    others q full none w it = record {
      slot = it.slot;
      sections = it.sections ∙ ap (λ b. cond b z.outcome z.sections) settles.done_is;
      effects = it.effects ∙ effects_under None;
      unmarked = it.unmarked;
    }

    -- THE LAW OF A WITHDRAWAL
    pub withdraw_keeps : (placed : IsPlacedBehind m shapes s u) → u.phase ≡ Withdrawing → Invariant (record m { replicas = put2 m.replicas u.ckpt r (Some (without_slot x)); in_hand = put_who m.in_hand (who s) (Some withdrawn_state) })
    withdraw_keeps placed phase = let_go_keeps m shapes inv s u held is at e found r had behind settles.alone x there false (without_slot x) refl shaped_none others
        (λ c it. subst (HasUpdate c.call (update_of c.op)) (effects_under None) it) withdrawn_state Withdrawing withdrawn_is
        (record { origin = still m shapes inv s u held is at e found r had behind settles.alone x there false (without_slot x) refl shaped_none others (λ c it. subst (HasUpdate c.call (update_of c.op)) (effects_under None) it) withdrawn_state Withdrawing withdrawn_is z.origin settles.origin; done_is = refl; alone = λ q c has_it. settles.alone q c (left q c has_it) })
        tt placed (λ f f_found. inr (λ it. cc it, λ it. subst (IsToCommit z s.call f) phase it))
      where
        left : (q : ℕ) (c : CallId) → cond (q == r) None (z.owners q) ≡ Some c → z.owners q ≡ Some c
        left q c has_it = elim (q == r) as (λ b. cond b None (z.owners q) ≡ Some c → z.owners q ≡ Some c) [ true ↦ λ gone. absurd (cc gone) | false ↦ λ it. it ] has_it

  -- ---- it is committed

  module _ (origin : IsDead m z.origin) (alone : AreOwn z s.call) (rest : (z.done ≡ true) ⊎ ((q : ℕ) → IsCompleteOn e q → z.owners q ≡ Some s.call)) (phase : committing u.phase ≡ Resolving) where
    done_free : (q : ℕ) → IsCompleteOn e q → z.owners q ≡ None → z.done ≡ true
    done_free q full none = elim rest [
      | inl is_done ↦ is_done
      | inr all ↦ absurd (let w : None ≡ Some s.call = sym none ∙ all q full in cc w)
    ]

    has_it : (q : ℕ) → IsCompleteOn e q → (o : Option CallId) → z.owners q ≡ o → (y : ReplicaState) → IsShaped z o y → HasSlotOrEffect x own_slot y y.slot
    has_it q full None owns y is =
        subst (HasSlotOrEffect x own_slot y) (sym is.slot)
        (is.effects ∙ ap (λ b. cond b (z.effects ++ Applied z.origin z.update z.moment ∷ []) z.effects) (done_free q full owns) ∙ ap (λ es. es ++ Applied z.origin z.update z.moment ∷ []) (sym shaped.effects))
    has_it q full (Some d) owns y is = subst (HasSlotOrEffect x own_slot y) (sym is.slot) (refl, refl, refl, is.effects ∙ sym shaped.effects)

    apart : same_call z.origin s.call ≡ false
    apart = same_call-false z.origin s.call (dead_other m shapes inv s u held is at z.origin origin)

    -- the guard; it does not end the call
    pub resolve_ok : (ends : Bool → Bool) → ends false ≡ false → CommitOk m s.call (update_of s.op) ends u.ckpt r None beside.Nothing x
    resolve_ok ends never = record {
      slot = own_slot;
      staged = shaped.slot;
      owner = refl;
      origin = inr origin.gone;
      others = on_complete m u.ckpt e found (λ y. HasSlotOrEffect x own_slot y y.slot) (λ q full. IfSome-more (m.replicas u.ckpt q) (IsShaped z (z.owners q)) (λ y. HasSlotOrEffect x own_slot y y.slot) (has_it q full (z.owners q) refl) (shaped_at q full));
      answer = sym (ap (λ b. cond b (Some (Done (update_answer (update_of s.op)))) None) ends_not);
      told = sym (ap (λ b. cond b (told_id (update_of s.op) z.moment x.sections) beside.Nothing) ends_not);
    }
      where
        ends_not : ends (same_call z.origin s.call && not (owned_elsewhere s.call r (complete_replicas m u.ckpt))) ≡ false
        ends_not = ap (λ b. ends (b && not (owned_elsewhere s.call r (complete_replicas m u.ckpt)))) apart ∙ never

    abbrev pub resolve_done : StepDone
    resolve_done = done_of m.cluster verbs.Commit (Some u.ckpt) (Some r) words.Ok

    abbrev pub resolved_state : CallState
    resolved_state = record s { steps = resolve_done ∷ s.steps; created = created_by m s verbs.Commit (Some u.ckpt) (Some r) }

    resolved_is : IsBehind s u resolved_state (record u { owned = slice_set u.owned r 0; phase = Resolving })
    resolved_is = record { step = resolve_done; of = tt; call = refl; op = refl; kept = refl; begun = refl; steps = refl; update = ap (λ ph. record u { owned = slice_set u.owned r 0; phase = ph }) phase }

    abbrev pub resolved : ReplicaState
    resolved = committed_slot e.attributes x (Some own_slot)

    shaped_resolved : IsShaped (after_it m shapes inv s u held is at e found r had behind alone x there true) None resolved
    shaped_resolved = record {
      slot = refl;
      sections = (let outcome_is = ap (outcome e.attributes z.update z.moment) shaped.sections ∙ was.fits r s.call (own_r m shapes inv s u held is at e found r had behind alone x there true) in ap (λ o. or_same o x.sections) outcome_is);
      effects = ap (λ es. es ++ Applied z.origin z.update z.moment ∷ []) shaped.effects;
      unmarked = shaped.unmarked;
    }

    others_resolved : (q : ℕ) → IsCompleteOn e q → z.owners q ≡ None → (w : ReplicaState) → IsShaped z None w → IsShaped (after_it m shapes inv s u held is at e found r had behind alone x there true) None w
    others_resolved q full none w it = let is_done = done_free q full none in record {
      slot = it.slot;
      sections = it.sections ∙ ap (λ b. cond b z.outcome z.sections) is_done;
      effects = it.effects ∙ ap (λ b. cond b (z.effects ++ Applied z.origin z.update z.moment ∷ []) z.effects) is_done;
      unmarked = it.unmarked;
    }

    has_still : (c : CallState) → HasUpdate c.call (update_of c.op) (effects_by z None) → HasUpdate c.call (update_of c.op) (z.effects ++ Applied z.origin z.update z.moment ∷ [])
    has_still c it = by_done z.done it
      where
        by_done : (b : Bool) → HasUpdate c.call (update_of c.op) (cond b (z.effects ++ Applied z.origin z.update z.moment ∷ []) z.effects) → HasUpdate c.call (update_of c.op) (z.effects ++ Applied z.origin z.update z.moment ∷ [])
        by_done true it = it
        by_done false it = HasUpdate-front c.call (update_of c.op) z.effects (Applied z.origin z.update z.moment ∷ []) it

    -- THE LAW OF A COMMIT IN RESOLVING
    pub resolve_keeps : IsPlacedBehind m shapes s u → Invariant (record m { replicas = put2 m.replicas u.ckpt r (Some resolved); in_hand = put_who m.in_hand (who s) (Some resolved_state) })
    resolve_keeps placed = let_go_keeps m shapes inv s u held is at e found r had behind alone x there true resolved refl shaped_resolved others_resolved has_still resolved_state Resolving resolved_is
        (record { origin = still m shapes inv s u held is at e found r had behind alone x there true resolved refl shaped_resolved others_resolved has_still resolved_state Resolving resolved_is z.origin origin; done_is = refl; alone = λ q c has_it. alone q c (left q c has_it) })
        tt placed (λ f f_found. inr (λ it. cc it, resolving_apart z s.call f u.phase phase))
      where
        left : (q : ℕ) (c : CallId) → cond (q == r) None (z.owners q) ≡ Some c → z.owners q ≡ Some c
        left q c has_it = elim (q == r) as (λ b. cond b None (z.owners q) ≡ Some c → z.owners q ≡ Some c) [ true ↦ λ gone. absurd (cc gone) | false ↦ λ it. it ] has_it
