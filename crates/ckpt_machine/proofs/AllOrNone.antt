-- All or none, of every checkpoint that is made.
use Rattle.std.proofs.Common.{◌≡◌, ◌⊎◌, ℕ, inl, inr, [], Option, Some, None, Bool, true, false, cond, ◌∷◌, ◌++◌, refl, sym, ap, subst, ◌∙◌}
use Rattle.std.specs.Prelude.{is_some, IsSome}
use Rattle.ckpt_types.specs.declared.identities.CallId.{CallId}
use Rattle.cluster_record.specs.declared.entries.Entry.{Entry}
use Rattle.cluster_record.specs.RecordState.{entry_of}
use Rattle.ckpt_machine.specs.Machine.{Machine, Applied, ReplicaState}
use Rattle.ckpt_machine.specs.Shape.{Shape, IsCompleteOn, IsShaped, IsSpread, sections_by, effects_by}
use Rattle.ckpt_machine.specs.Invariant.{IsGoodIn, Invariant}
use Rattle.ckpt_machine.specs.AllOrNone.{OneUpdate, IsOfOne, AreEqual, AreOfOne, AllOrNone, IsAllOrNoneThroughout}
use Rattle.ckpt_machine.specs.Laws.{OfEachRun}
use Rattle.cluster_record.specs.Placement.{is_all}
use Rattle.ckpt_machine.specs.Runs.{last}
use Rattle.ckpt_machine.proofs.RunLaws.{run_has}
use Rattle.ckpt_machine.proofs.Runs.{run_front}
use Rattle.ckpt_machine.proofs.NodeLists.{FirstComplete, first_complete-is, trichotomy}
use Rattle.ckpt_machine.proofs.OnAll.{shaped_replicas}
use Rattle.ckpt_machine.proofs.OnComplete.{IfSome-more, on_complete}

module _ (m : Machine) (k : ℕ) (z : Shape) (e : Entry) (found : entry_of k m.cluster.entries ≡ Some e) (spread : IsSpread m k z e) (all : is_all e.attributes ≡ true) where
  -- where the lowest has no slot, none has
  none_then : (f : FirstComplete 0 e.complete) → z.owners f.place ≡ None → (q : ℕ) → IsCompleteOn e q → z.owners q ≡ None
  none_then f none q there = by_owner (z.owners q) refl
    where
      by_owner : (o : Option CallId) → z.owners q ≡ o → z.owners q ≡ None
      by_owner None is = is
      by_owner (Some d) owns = elim (trichotomy f.place q) [
        | inl below ↦ absurd (let some : IsSome (z.owners f.place) = spread.lowest f.place q d below f.there owns in let w : false ≡ true = sym (ap is_some none) ∙ some in cc w)
        | inr (inl same) ↦ ap z.owners (sym same) ∙ none
        | inr (inr above) ↦ absurd (let w : true ≡ false = sym (f.others q above) ∙ there in cc w)
      ]

  one : OneUpdate
  one = record { origin = z.origin; update = z.update; moment = z.moment; sections = z.sections; effects = z.effects; outcome = z.outcome }

  of_one : (done : Bool) → z.done ≡ done → (o : Option CallId) (y : ReplicaState) → IsShaped z o y → IsOfOne one done y y.slot
  unfolding one
  of_one done is (Some d) y shaped = subst (IsOfOne one done y) (sym shaped.slot) (refl, refl, refl, shaped.sections, shaped.effects)
  of_one true is None y shaped = subst (IsOfOne one true y) (sym shaped.slot) (shaped.sections ∙ ap (λ b. cond b z.outcome z.sections) is, shaped.effects ∙ ap (λ b. cond b (z.effects ++ Applied z.origin z.update z.moment ∷ []) z.effects) is)
  of_one false is None y shaped = subst (IsOfOne one false y) (sym shaped.slot) (shaped.sections ∙ ap (λ b. cond b z.outcome z.sections) is, shaped.effects ∙ ap (λ b. cond b (z.effects ++ Applied z.origin z.update z.moment ∷ []) z.effects) is)

  together : AreEqual m k ⊎ AreOfOne m k e.attributes
  unfolding one
  together = let f = first_complete-is 0 e.complete spread.some in by_owner f (z.owners f.place) refl
    where
      by_owner : (f : FirstComplete 0 e.complete) (o : Option CallId) → z.owners f.place ≡ o → AreEqual m k ⊎ AreOfOne m k e.attributes
      by_owner f None none = inl (record {
        sections = sections_by z None;
        effects = effects_by z None;
        each = on_complete m k e found _ (λ q there. IfSome-more (m.replicas k q) (IsShaped z (z.owners q)) _ (λ y shaped. let at : IsShaped z None y = subst (λ o. IsShaped z o y) (none_then f none q there) shaped in (at.slot, at.sections, at.effects)) (shaped_replicas m k z e spread all q there));
      })
      by_owner f (Some d) owns = inr (record {
        one = one;
        done = z.done;
        fits = spread.fits f.place d owns;
        each = on_complete m k e found (λ y. IsOfOne one z.done y y.slot) (λ q there. IfSome-more (m.replicas k q) (IsShaped z (z.owners q)) _ (λ y shaped. of_one z.done refl (z.owners q) y shaped) (shaped_replicas m k z e spread all q there));
      })

-- wherever the invariant holds
pub all_or_none : (m : Machine) → Invariant m → AllOrNone m
all_or_none m inv k e found none all = together m k (inv.shapes k) e found (subst (λ maker. IsGoodIn m k (inv.shapes k) e maker) none (inv.holds.entries k e found)) all

-- so after each front of a run
pub on_all_or_none : OfEachRun IsAllOrNoneThroughout
on_all_or_none log run front back is = all_or_none (last front) (run_has front (run_front log front back is run)).0
