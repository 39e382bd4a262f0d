-- What is reserved under a record was reserved before it, for a checkpoint that is there, on a node that is not complete; and for what it was, it is.
use Rattle.std.proofs.Common.{◌≡◌, ℕ, inl, inr, Option, Some, None, true, false, cond, not, ◌&&◌, ◌==◌, refl, sym, ap, subst, ◌∙◌}
use Rattle.std.specs.Prelude.{is_some, IsSomeAnd, slice_index, nat_lt}
use Rattle.cluster_record.specs.declared.entries.Entry.{Entry}
use Rattle.cluster_record.specs.Placement.{is_collocated}
use Rattle.cluster_record.specs.RecordState.{RecordState, entry_of}
use Rattle.ckpt_types.specs.declared.identities.CallId.{CallId}
use Rattle.ckpt_types.proofs.Lists.{slice_index-replicate}
use Rattle.ckpt_machine.specs.Machine.{Machine}
use Rattle.ckpt_machine.specs.Shape.{Shape}
use Rattle.ckpt_machine.specs.After.{reservation_under}
use Rattle.ckpt_machine.specs.Invariant.{IsGoodIn, IsReservedFor, InvariantIn}
use Rattle.ckpt_machine.proofs.Lacking.{lacked_parts, lacked_later}

-- what follows of its entry
pub was_reserved : (o : Option Entry) (r n : ℕ) (old : Option ℕ) (P : Entry → Type 0) → ((e : Entry) → o ≡ Some e → (slice_index e.complete r == 0) ≡ true → old ≡ Some n → P e) → reservation_under o r old ≡ Some n → IsSomeAnd o P
was_reserved None r n old P from none = absurd (cc none)
was_reserved (Some e) r n old P from some = elim (slice_index e.complete r == 0) as (λ b. (slice_index e.complete r == 0) ≡ b → cond b old None ≡ Some n → P e) [
  | true ↦ λ free was. from e refl free was
  | false ↦ λ there none. absurd (cc none)
] refl some

-- a reservation is for what it was, where its checkpoint is made or in the making as it was, its node is up as it was, and is not complete
pub reserved_later : (R Q : RecordState) (r n : ℕ) (e f : Entry) → f.making ≡ e.making → f.attributes ≡ e.attributes → (slice_index f.complete r == 0) ≡ true → slice_index Q.up r ≡ slice_index R.up r → IsReservedFor R r n e → IsReservedFor Q r n f
reserved_later R Q r n e f making attributes free up (inl maker) = inl (ap (λ o. is_some o) making ∙ maker)
reserved_later R Q r n e f making attributes free up (inr lacked) = inr (lacked_later r e f making (ap is_collocated attributes) free lacked.0, ap (λ i. nat_lt r 8 && not (i == 0)) up ∙ lacked.1, lacked.2 ∙ sym up)

-- what is reserved is on a node that is not complete for its checkpoint
pub reserved_free : (m : Machine) (shapes : ℕ → Shape) → InvariantIn shapes m → (k r n : ℕ) → m.reserved k r ≡ Some n → (e : Entry) → entry_of k m.cluster.entries ≡ Some e → (slice_index e.complete r == 0) ≡ true
reserved_free m shapes inv k r n reserved e found = by_cause (subst (λ o. IsSomeAnd o (IsReservedFor m.cluster r n)) found (inv.reserves k r n reserved)) e.making refl
  where
    by_cause : IsReservedFor m.cluster r n e → (o : Option CallId) → e.making ≡ o → (slice_index e.complete r == 0) ≡ true
    by_cause (inr lacked) o making = (lacked_parts r e lacked.0).none
    by_cause (inl some) None making = absurd (let w : false ≡ true = sym (ap (λ o. is_some o) making) ∙ some in cc w)
    by_cause (inl some) (Some call) making =
        let good : IsGoodIn m k (shapes k) e (Some call) = subst (IsGoodIn m k (shapes k) e) making (inv.entries k e found) in
        ap (λ cs. slice_index cs r == 0) good.0.complete ∙ ap (λ n. n == 0) (slice_index-replicate 8 r)
