-- What it is that a node lacks a replica of a checkpoint.
use Rattle.std.proofs.Common.{◌≡◌, inl, inr, ℕ, Option, Some, None, Bool, true, false, not, ◌&&◌, ◌==◌, refl, sym, ap, ◌∙◌}
use Rattle.std.proofs.lemmas.Bool.{and_parts}
use Rattle.std.specs.Prelude.{is_some, slice_index}
use Rattle.cluster_record.specs.declared.entries.Entry.{Entry}
use Rattle.cluster_record.specs.DueCopy.{lacks_replica}
use Rattle.cluster_record.specs.Placement.{is_collocated}
use Rattle.cluster_record.specs.RecordState.{RecordState}
use Rattle.ckpt_machine.specs.Invariant.{IsReservedFor}

-- the checkpoint is made and is not collocated, and the node is not complete for it
pub record IsLacked (r : ℕ) (e : Entry) : Type 0 where
  pub made : e.making ≡ None
  pub apart : is_collocated e.attributes ≡ false
  pub none : (slice_index e.complete r == 0) ≡ true

not_true : (b : Bool) → not b ≡ true → b ≡ false
not_true true off = absurd (cc off)
not_true false off = refl

no_maker : {X : Type 0} (o : Option X) → not (is_some o) ≡ true → o ≡ None
no_maker None none = refl
no_maker (Some x) none = absurd (cc none)

pub lacked_parts : (r : ℕ) (e : Entry) → lacks_replica r e ≡ true → IsLacked r e
lacked_parts r e lacks =
    let places : ((not (is_some e.making) && not (is_collocated e.attributes)) ≡ true) × ((slice_index e.complete r == 0) ≡ true) = and_parts (not (is_some e.making) && not (is_collocated e.attributes)) (slice_index e.complete r == 0) lacks in
    let parts : (not (is_some e.making) ≡ true) × (not (is_collocated e.attributes) ≡ true) = and_parts (not (is_some e.making)) (not (is_collocated e.attributes)) places.0 in
    record { made = no_maker e.making parts.0; apart = not_true (is_collocated e.attributes) parts.1; none = places.1 }

pub lacked_from : (r : ℕ) (e : Entry) → IsLacked r e → lacks_replica r e ≡ true
lacked_from r e is = λ i. (not (is_some (is.made i)) && not (is.apart i)) && is.none i

-- one that declares the same and is made still is lacked where it was, where the node is not complete
pub lacked_later : (r : ℕ) (e f : Entry) → f.making ≡ e.making → is_collocated f.attributes ≡ is_collocated e.attributes → (slice_index f.complete r == 0) ≡ true → lacks_replica r e ≡ true → lacks_replica r f ≡ true
lacked_later r e f making attributes none lacks =
    let is : IsLacked r e = lacked_parts r e lacks in
    lacked_from r f (record { made = making ∙ is.made; apart = attributes ∙ is.apart; none = none })

-- nothing is reserved for a collocated checkpoint that is made
pub collocated_unreserved : (R : RecordState) (r n : ℕ) (e : Entry) → IsReservedFor R r n e → e.making ≡ None → is_collocated e.attributes ≡ true → ⊥
collocated_unreserved R r n e (inl making) made is = (let w : false ≡ true = sym (ap (λ o. is_some o) made) ∙ making in cc w)
collocated_unreserved R r n e (inr lacked) made is = (let w : false ≡ true = sym (lacked_parts r e lacked.0).apart ∙ is in cc w)
