-- What a copying in hand knows of itself: its node is up, and where it has no slot of the checkpoint that it is at, it owns none anywhere.
use Rattle.std.proofs.Common.{◌≡◌, ℕ, inl, inr, Option, Some, None, Bool, true, false, not, ◌&&◌, ◌==◌, refl, sym, ap, subst, ◌∙◌}
use Rattle.std.specs.Prelude.{nat_lt, slice_index}
use Rattle.std.proofs.lemmas.Bool.{and_parts, eqb-true}
use Rattle.std.proofs.lemmas.Option.{same_Some}
use Rattle.ckpt_types.specs.declared.identities.ActorName.{ActorName}
use Rattle.ckpt_types.specs.declared.identities.ActorName.TheVariants.{Node}
use Rattle.ckpt_types.specs.declared.identities.CallId.{CallId}
use Rattle.ckpt_types.specs.declared.identities.Who.{Who}
use Rattle.ckpt_types.specs.declared.identities.Who.TheVariants.{Actor}
use Rattle.ckpt_types.specs.Asks.{MayAsk, asked}
use Rattle.ckpt_types.specs.Asks as asks
use Rattle.ckpt_types.specs.OpWord.{is_async, word_of_op}
use Rattle.cluster_record.specs.declared.copying.Copying.{Copying}
use Rattle.cluster_record.specs.declared.entries.Entry.{Entry}
use Rattle.cluster_record.specs.DueCopy.{CopyState}
use Rattle.cluster_record.specs.DueUpdate.{UpdateState}
use Rattle.cluster_record.specs.Placement.{is_all}
use Rattle.cluster_record.specs.RecordState.{entry_of, is_live, is_up}
use Rattle.cluster_record.specs.StepDone.{has}
use Rattle.ckpt_machine.specs.Dead.{is_enter}
use Rattle.ckpt_machine.specs.Drivers.{staging_at, update_in}
use Rattle.ckpt_machine.specs.Drivers as drivers
use Rattle.ckpt_machine.specs.Due.{driver_of}
use Rattle.ckpt_machine.specs.GuardTerms.{owns_slot}
use Rattle.ckpt_machine.specs.InHand.{IsCopyIn, IsCopyingAt, IsInPlace, IsInHand}
use Rattle.ckpt_machine.specs.Invariant.{InvariantIn, IsOfGeneration}
use Rattle.ckpt_machine.specs.Machine.{Machine, ReplicaState, CallState, who}
use Rattle.ckpt_machine.specs.Shape.{Shape, IsCompleteOn, IsShapedBy, IsSpread, IsOwner, is_owner, slot_by}
use Rattle.ckpt_machine.specs.Whose.{same_who}
use Rattle.ckpt_machine.proofs.Askers.{asker_node, copy_ask, copy_op}
use Rattle.ckpt_machine.proofs.Actors.{same_call-false}
use Rattle.ckpt_machine.proofs.Lives.{held_not_dead}
use Rattle.ckpt_machine.proofs.OptionLemmas.{IsSomeAnd-at}
use Rattle.ckpt_machine.proofs.Owning.{is_owner-true, is_owner-here}
use Rattle.ckpt_machine.proofs.Propagated.{complete_spread}
use Rattle.ckpt_machine.proofs.UpdateIn.{copying_there}
use Rattle.ckpt_machine.proofs.Whose.{same_state, same_who-refl, stepped_as-plain}

module _ (m : Machine) (shapes : ℕ → Shape) (inv : InvariantIn shapes m) (s : CallState) (c : CopyState) (held : m.in_hand (who s) ≡ Some s) (is : driver_of s ≡ drivers.Copy c) where
  -- where its steps have led it
  pub its : IsCopyIn m shapes s c
  its = subst (IsInPlace m shapes s) is (inv.hands (who s) s held).here

  -- at the checkpoint that it is at
  pub its_at : (at : Copying) → c.copying ≡ Some at → IsCopyingAt m shapes s c at
  its_at at some = copying_there m shapes s c at some its

  -- it is live
  pub live_own : is_live m.cluster s.call ≡ true
  live_own = (inv.hands (who s) s held).live (ap is_enter is)

  -- so its node is up
  pub up_own : is_up c.node m.cluster ≡ true
  up_own =
      let by_node : (is_up c.node m.cluster && not (nat_lt s.call.number (slice_index m.cluster.first_calls c.node))) ≡ true = ap (λ (a : ActorName). is_live m.cluster (record { actor = a; number = s.call.number })) (sym its.node) ∙ live_own in
      (and_parts (is_up c.node m.cluster) (not (nat_lt s.call.number (slice_index m.cluster.first_calls c.node))) by_node).0

  -- it is in hand under its node's name
  pub own_name : who s ≡ Actor (Node c.node)
  own_name = stepped_as-plain s.call (word_of_op s.op) (ap (λ op. is_async (word_of_op op)) (copy_op s.op its.asks)) ∙ ap Actor its.node

  -- so a call of a node that is in hand under another name is another node's
  pub other_node : (w : Who) (z : CallState) → same_who w (who s) ≡ false → m.in_hand w ≡ Some z → (r : ℕ) → z.call.actor ≡ Node r → (r == c.node) ≡ false
  other_node w z other at r actor = by_test (r == c.node) refl
    where
      was : IsInHand m shapes w z
      was = inv.hands w z at

      by_test : (b : Bool) → (r == c.node) ≡ b → (r == c.node) ≡ false
      by_test false apart = apart
      by_test true same =
          let copies : asked z.op ≡ asks.Copy = copy_ask (asked z.op) (asker_node r (asked z.op) (subst (λ a. MayAsk a (asked z.op)) actor was.asker)) in
          let name : who z ≡ Actor (Node r) = stepped_as-plain z.call (word_of_op z.op) (ap (λ op. is_async (word_of_op op)) (copy_op z.op copies)) ∙ ap Actor actor in
          let w_is : w ≡ who s = sym was.whose ∙ name ∙ ap (λ n. Actor (Node n)) (eqb-true r c.node same) ∙ sym own_name in
          absurd (let it : true ≡ false = sym (same_who-refl (who s)) ∙ ap (λ v. same_who v (who s)) (sym w_is) ∙ other in cc it)

  -- ---- which slots it owns

  -- it has none of the nodes of the checkpoint that it is at, where updates are on all replicas
  abbrev pub HasNone : Type 0
  HasNone = (at : Copying) (e : Entry) (r : ℕ) → c.copying ≡ Some at → entry_of at.ckpt m.cluster.entries ≡ Some e → is_all e.attributes ≡ true → has (slice_index e.complete r) (slice_index c.staging.owned r) ≡ true → ⊥

  module _ (none : HasNone) where
    -- so it owns no slot
    pub none_owned : (j r : ℕ) (e : Entry) → entry_of j m.cluster.entries ≡ Some e → IsSpread m j (shapes j) e → (shapes j).owners r ≡ Some s.call → ⊥
    none_owned j r e found was owns = elim (was.owned r s.call owns) [
      | inl own ↦ by_owner own
      | inr left ↦ held_not_dead m shapes inv s held left.0
    ]
      where
        by_owner : IsOwner m j (shapes j) s.call → ⊥
        by_owner own = by_at c.copying refl does
          where
            does : update_in (drivers.Copy c) ≡ Some own.driver
            does =
                let state : own.state ≡ s = same_state m.in_hand m.pending m.next inv.calls own.state s own.in_hand held own.call_is in
                sym (ap (λ z. update_in (driver_of z)) state ∙ ap update_in is) ∙ own.driver_is

            by_at : (o : Option Copying) → c.copying ≡ o → staging_at o c.staging ≡ Some own.driver → ⊥
            by_at None no_copying staging = cc staging
            by_at (Some at) some staging =
                let u_is : c.staging ≡ own.driver = same_Some c.staging own.driver staging in
                let there = its_at at some in
                let staged_is : c.staging.ckpt ≡ j = ap (λ (u : UpdateState). u.ckpt) u_is ∙ own.ckpt in
                let at_is : at.ckpt ≡ j = sym there.ckpt ∙ staged_is in
                let found_at : entry_of at.ckpt m.cluster.entries ≡ Some e = ap (λ k. entry_of k m.cluster.entries) at_is ∙ found in
                let found_staged : entry_of c.staging.ckpt m.cluster.entries ≡ Some e = ap (λ k. entry_of k m.cluster.entries) staged_is ∙ found in
                let all = was.all r s.call owns in
                let has_it = (there.update e found_at all).owns e found_staged r (was.complete r s.call owns) in
                none at e r some found_at all (has_it ∙ is_owner-here s.call ((shapes c.staging.ckpt).owners r) (ap (λ k. (shapes k).owners r) staged_is ∙ owns))

    -- by the test too
    pub none_owned-test : (j r : ℕ) (e : Entry) → entry_of j m.cluster.entries ≡ Some e → IsSpread m j (shapes j) e → is_owner s.call ((shapes j).owners r) ≡ false
    none_owned-test j r e found was = by_test (is_owner s.call ((shapes j).owners r)) refl
      where
        by_test : (b : Bool) → is_owner s.call ((shapes j).owners r) ≡ b → is_owner s.call ((shapes j).owners r) ≡ false
        by_test false not_own = not_own
        by_test true owns = absurd (none_owned j r e found was (is_owner-true s.call ((shapes j).owners r) owns))

    -- and no replica has a slot of it
    pub no_slot : (j r : ℕ) (x : ReplicaState) → m.replicas j r ≡ Some x → owns_slot s.call x.slot ≡ false
    no_slot j r x there =
        let (e, found, complete) = IsSomeAnd-at (entry_of j m.cluster.entries) (λ e. IsCompleteOn e r × IsOfGeneration e r x.generation) (inv.replicas j r x there) in
        let was = complete_spread m shapes inv j r e found complete.0 in
        let (y, here, shaped) = IsSomeAnd-at (m.replicas j r) (IsShapedBy (is_all e.attributes) (shapes j) e.active r) (was.replicas r complete.0) in
        by_all e found was (is_all e.attributes) (subst (IsShapedBy (is_all e.attributes) (shapes j) e.active r) (same_Some y x (sym here ∙ there)) shaped)
      where
        by_owner : (e : Entry) → entry_of j m.cluster.entries ≡ Some e → IsSpread m j (shapes j) e → (o : Option CallId) → (shapes j).owners r ≡ o → x.slot ≡ slot_by (shapes j) o → owns_slot s.call x.slot ≡ false
        by_owner e found was None free slot = ap (owns_slot s.call) slot
        by_owner e found was (Some d) owner slot = ap (owns_slot s.call) slot ∙ same_call-false d s.call (λ same. none_owned j r e found was (owner ∙ ap Some same))

        by_all : (e : Entry) → entry_of j m.cluster.entries ≡ Some e → IsSpread m j (shapes j) e → (b : Bool) → IsShapedBy b (shapes j) e.active r x → owns_slot s.call x.slot ≡ false
        by_all e found was false shaped = ap (owns_slot s.call) shaped.free
        by_all e found was true shaped = by_owner e found was ((shapes j).owners r) refl shaped.slot
