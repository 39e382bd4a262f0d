-- The moment at which an update stages is that of the slots that stand, where the replica that it asks has none.
use Rattle.std.proofs.Common.{◌≡◌, ℕ, ◌<◌, inl, inr, length, Option, Some, None, true, false, refl, sym, ap, subst, ◌∙◌, arith}
use Rattle.std.specs.Prelude.{is_some, IsSome, IsSomeAnd, IfSome, slice_index}
use Rattle.ckpt_types.specs.declared.identities.CallId.{CallId}
use Rattle.cluster_record.specs.declared.calls.UpdatePhase.TheVariants.{Staging}
use Rattle.cluster_record.specs.declared.entries.Entry.{Entry}
use Rattle.cluster_record.specs.DueUpdate.{UpdateState}
use Rattle.cluster_record.specs.RecordState.{entry_of, complete_of}
use Rattle.cluster_record.specs.StepDone.{has, lacks, last_having}
use Rattle.ckpt_machine.specs.Drivers.{update_in}
use Rattle.ckpt_machine.specs.Machine.{Machine, ReplicaState, CallState, who}
use Rattle.ckpt_machine.specs.Due.{driver_of}
use Rattle.ckpt_machine.specs.After.{staged_moment, moment_from, moment_of_slot}
use Rattle.ckpt_machine.specs.Shape.{Shape, IsCompleteOn, IsShaped, IsSpread, IsStaging, PhaseFits, slot_by}
use Rattle.ckpt_machine.specs.InHand.{IsUpdateIn}
use Rattle.ckpt_machine.specs.Invariant.{InvariantIn}
use Rattle.ckpt_machine.proofs.NodeLists.{trichotomy, last_having-None, moment-none, moment-some, not-lacked, had-there}
use Rattle.ckpt_machine.proofs.Owning.{spread, owns_had, own_phase, own_owner, all_is}
use Rattle.ckpt_machine.proofs.OnAll.{shaped_replicas}
use Rattle.ckpt_machine.proofs.OnComplete.{IfSome-more}

module _ (m : Machine) (shapes : ℕ → Shape) (inv : InvariantIn shapes m) (s : CallState) (u : UpdateState) (held : m.in_hand (who s) ≡ Some s) (is : update_in (driver_of s) ≡ Some u) (at : IsUpdateIn m shapes s u) (e : Entry) (found : entry_of u.ckpt m.cluster.entries ≡ Some e) where
  abbrev was : IsSpread m u.ckpt (shapes u.ckpt) e
  was = spread m shapes inv s u held is at e found

  same_length : length u.owned ≡ length e.complete
  same_length = at.nodes ∙ sym was.nodes

  -- ---- it has staged nowhere

  module _ (r : ℕ) (complete : IsCompleteOn e r) (before : (q : ℕ) → q < r → lacks (slice_index e.complete q) (slice_index u.owned q) ≡ false) (none : last_having 0 e.complete u.owned ≡ None) (free : (shapes u.ckpt).owners r ≡ None) where
    -- no complete node is before the one that it stages at
    first : (q : ℕ) → q < r → IsCompleteOn e q → ⊥
    first q below there = let had = not-lacked (slice_index e.complete q) (slice_index u.owned q) there (before q below) in (let w : true ≡ false = sym had ∙ last_having-None 0 e.complete u.owned same_length none q in cc w)

    nobody : (q : ℕ) (d : CallId) → (shapes u.ckpt).owners q ≡ Some d → ⊥
    nobody q d owns = elim (trichotomy q r) [
      | inl below ↦ first q below (was.complete q d owns)
      | inr (inl same) ↦ (let w : None ≡ Some d = sym free ∙ ap (shapes u.ckpt).owners (sym same) ∙ owns in cc w)
      | inr (inr above) ↦ (let some : IsSome ((shapes u.ckpt).owners r) = was.lowest r q d above complete owns in let w : false ≡ true = sym (ap is_some free) ∙ some in cc w)
    ]

    -- so nobody owns a slot
    pub none_owned : (q : ℕ) → (shapes u.ckpt).owners q ≡ None
    none_owned q = by_owner ((shapes u.ckpt).owners q) refl
      where
        by_owner : (o : Option CallId) → (shapes u.ckpt).owners q ≡ o → (shapes u.ckpt).owners q ≡ None
        by_owner None no_owner = no_owner
        by_owner (Some d) owns = absurd (nobody q d owns)

    pub moment_first : staged_moment m u.ckpt ≡ m.cluster.moment
    moment_first =
        ap (λ o. moment_from (m.replicas u.ckpt) m.cluster.moment 0 (complete_of o)) found
        ∙ moment-none (m.replicas u.ckpt) m.cluster.moment 0 e.complete
        (λ d there. subst (λ (j : ℕ). IfSome (m.replicas u.ckpt j) (λ y. y.slot ≡ None)) (omega arith)
        (IfSome-more (m.replicas u.ckpt d) (IsShaped (shapes u.ckpt) ((shapes u.ckpt).owners d)) (λ y. y.slot ≡ None) (λ y is. is.slot ∙ ap (slot_by (shapes u.ckpt)) (none_owned d)) (shaped_replicas m u.ckpt (shapes u.ckpt) e was (all_is m shapes inv s u held is at e found) d there)))

  -- ---- it has staged before

  module _ (staging : u.phase ≡ Staging) (p : ℕ) (had : has (slice_index e.complete p) (slice_index u.owned p) ≡ true) where
    owner_p : (shapes u.ckpt).owners p ≡ Some s.call
    owner_p = owns_had m shapes inv s u held is at e found p (had-there (slice_index e.complete p) (slice_index u.owned p) had) had

    fits_p : IsStaging (shapes u.ckpt) s u
    fits_p = subst (PhaseFits m (shapes u.ckpt) s u) staging (own_phase m shapes inv s u held is at e found (own_owner m shapes inv s u held is at e found p owner_p))

    pub moment_later : staged_moment m u.ckpt ≡ u.moment
    moment_later =
        ap (λ o. moment_from (m.replicas u.ckpt) m.cluster.moment 0 (complete_of o)) found
        ∙ moment-some (m.replicas u.ckpt) m.cluster.moment u.moment 0 e.complete p (had-there (slice_index e.complete p) (slice_index u.owned p) had)
        (subst (λ (j : ℕ). IsSomeAnd (m.replicas u.ckpt j) (λ y. IsSome y.slot)) (omega arith) (slot_there (m.replicas u.ckpt p) (shaped_replicas m u.ckpt (shapes u.ckpt) e was (all_is m shapes inv s u held is at e found) p (was.complete p s.call owner_p))))
        (λ d there. subst (λ (j : ℕ). IfSome (m.replicas u.ckpt j) (λ y. moment_of_slot y.slot u.moment ≡ u.moment)) (omega arith)
        (IfSome-more (m.replicas u.ckpt d) (IsShaped (shapes u.ckpt) ((shapes u.ckpt).owners d)) (λ y. moment_of_slot y.slot u.moment ≡ u.moment) (λ y is. ap (λ w. moment_of_slot w u.moment) is.slot ∙ slot_moment ((shapes u.ckpt).owners d)) (shaped_replicas m u.ckpt (shapes u.ckpt) e was (all_is m shapes inv s u held is at e found) d there)))
      where
        slot_there : (y : Option ReplicaState) → IsSomeAnd y (IsShaped (shapes u.ckpt) ((shapes u.ckpt).owners p)) → IsSomeAnd y (λ y. IsSome y.slot)
        slot_there None is = is
        slot_there (Some y) is = ap is_some (is.slot ∙ ap (slot_by (shapes u.ckpt)) owner_p)

        slot_moment : (o : Option CallId) → moment_of_slot (slot_by (shapes u.ckpt) o) u.moment ≡ u.moment
        slot_moment None = refl
        slot_moment (Some d) = fits_p.moment
