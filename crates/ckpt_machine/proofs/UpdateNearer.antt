-- How many steps are left of an update behind one of its steps: by its nodes, and by the slot that it is to meet.
use Rattle.std.proofs.Common.{◌≡◌, ℕ, ◌≤◌, ◌+◌, length, Option, Some, None, Bool, true, false, cond, ◌&&◌, ◌==◌, refl, sym, ap, subst, ◌∙◌, arith}
use Rattle.std.specs.Option.{option_map}
use Rattle.std.specs.Prelude.{slice_index, slice_set}
use Rattle.std.proofs.lemmas.Bool.{eq-eqb}
use Rattle.ckpt_types.specs.declared.identities.CallId.{CallId}
use Rattle.cluster_record.specs.declared.entries.Entry.{Entry}
use Rattle.cluster_record.specs.DueUpdate.{UpdateState}
use Rattle.cluster_record.specs.Places.{put2}
use Rattle.cluster_record.specs.RecordState.{entry_of}
use Rattle.cluster_record.specs.StepDone.{has, lacks, first_lacking}
use Rattle.ckpt_machine.specs.Drivers.{update_in}
use Rattle.ckpt_machine.specs.Due.{driver_of}
use Rattle.ckpt_machine.specs.InHand.{IsUpdateIn}
use Rattle.ckpt_machine.specs.Invariant.{InvariantIn}
use Rattle.ckpt_machine.specs.Left.{lacking, having, owner_met, slot_owner, update_left, update_left_by}
use Rattle.ckpt_machine.specs.Machine.{Machine, Staged, ReplicaState, CallState, who}
use Rattle.ckpt_machine.specs.Shape.{Shape, IsCompleteOn, IsShaped, AreOwn}
use Rattle.ckpt_machine.proofs.NodeLists.{first_lacking-is, lacked-has, index-other, length-slice_set}
use Rattle.ckpt_machine.proofs.Owning.{spread, replica_at, is_owner-here}
use Rattle.ckpt_machine.proofs.StepsLeft.{having-some}

module _ (m : Machine) (shapes : ℕ → Shape) (inv : InvariantIn shapes m) (s : CallState) (u : UpdateState) (held : m.in_hand (who s) ≡ Some s) (is : update_in (driver_of s) ≡ Some u) (at : IsUpdateIn m shapes s u) (e : Entry) (found : entry_of u.ckpt m.cluster.entries ≡ Some e) where
  abbrev z : Shape
  z = shapes u.ckpt

  -- the owner of the slot that it is to meet
  abbrev pub met : Option CallId
  met = owner_met (m.replicas u.ckpt) (first_lacking 0 e.complete u.owned)

  -- so many steps are left of it
  abbrev pub left_now : ℕ
  left_now = update_left e.complete (m.replicas u.ckpt) u

  pub left_is : left_now ≡ update_left_by (lacking e.complete u.owned) (having e.complete u.owned) u.owner met u.phase
  left_is = refl

  same_length : length u.owned ≡ length e.complete
  same_length = at.nodes ∙ sym (spread m shapes inv s u held is at e found).nodes

  -- the owner of the slot on the lowest node that it lacks
  pub met_is : (r : ℕ) (x : ReplicaState) (slot : Option Staged) → first_lacking 0 e.complete u.owned ≡ Some r → m.replicas u.ckpt r ≡ Some x → x.slot ≡ slot → met ≡ option_map (λ (slot : Staged). slot.owner) slot
  met_is r x slot first there is_slot = ap (owner_met (m.replicas u.ckpt)) first ∙ ap slot_owner there ∙ ap (option_map (λ (slot : Staged). slot.owner)) is_slot

  -- behind a step that takes its last slot away, where all are its own, it is to meet none
  pub none_met : (r : ℕ) (y : ReplicaState) → AreOwn z s.call → y.slot ≡ None → having e.complete (slice_set u.owned r 0) ≡ 0 → owner_met (put2 m.replicas u.ckpt r (Some y) u.ckpt) (first_lacking 0 e.complete (slice_set u.owned r 0)) ≡ None
  none_met r y alone free none = by_first (first_lacking 0 e.complete (slice_set u.owned r 0)) refl
    where
      slot_none : (q : ℕ) → IsCompleteOn e q → (q == r) ≡ false → (o : Option CallId) → z.owners q ≡ o → (w : ReplicaState) → IsShaped z o w → slot_owner (Some w) ≡ None
      slot_none q full other None owns w it = ap (option_map (λ (slot : Staged). slot.owner)) it.slot
      slot_none q full other (Some d) owns w it = absurd (
          let had : has (slice_index e.complete q) (slice_index (slice_set u.owned r 0) q) ≡ true
          = ap (has (slice_index e.complete q)) (index-other u.owned r q 0 other) ∙ at.owns e found q full ∙ is_owner-here s.call (z.owners q) (owns ∙ ap Some (alone q d owns)) in
          let some : 1 ≤ having e.complete (slice_set u.owned r 0) = having-some e.complete (slice_set u.owned r 0) q (length-slice_set u.owned r 0 ∙ same_length) had in
          omega (arith, some, none))

      by_test : (q : ℕ) → IsCompleteOn e q → (b : Bool) → (q == r) ≡ b → slot_owner (cond b (Some y) (m.replicas u.ckpt q)) ≡ None
      by_test q full true same = ap (option_map (λ (slot : Staged). slot.owner)) free
      by_test q full false other = let (w, w_is, shaped) = replica_at m shapes inv s u held is at e found q full in ap slot_owner w_is ∙ slot_none q full other (z.owners q) refl w shaped

      by_first : (o : Option ℕ) → first_lacking 0 e.complete (slice_set u.owned r 0) ≡ o → owner_met (put2 m.replicas u.ckpt r (Some y) u.ckpt) o ≡ None
      by_first None is_none = refl
      by_first (Some q) some =
          let it = first_lacking-is 0 e.complete (slice_set u.owned r 0) q some in
          let here : q ≡ 0 + it.place = it.at in
          let same : it.place ≡ q = omega (arith, here) in
          let lacked : lacks (slice_index e.complete q) (slice_index (slice_set u.owned r 0) q) ≡ true = subst (λ (p : ℕ). lacks (slice_index e.complete p) (slice_index (slice_set u.owned r 0) p) ≡ true) same it.lacked in
          subst (λ b. slot_owner (cond (b && (q == r)) (Some y) (m.replicas u.ckpt q)) ≡ None) (sym (eq-eqb u.ckpt u.ckpt refl))
          (by_test q (lacked-has (slice_index e.complete q) (slice_index (slice_set u.owned r 0) q) lacked).0 (q == r) refl)
