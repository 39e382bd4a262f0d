-- The record behind a completion, and what stands under it: one entry has a node more, and there a new replica.
use Rattle.std.proofs.Common.{◌≡◌, ℕ, ◌+◌, ◌<◌, ◌≤◌, length, Option, Some, None, is_some, Bool, true, false, cond, not, ◌&&◌, ◌==◌, ℤ, refl, sym, ap, subst, ◌∙◌, arith}
use Rattle.std.specs.Prelude.{IfSome, IsSome, nat_lt, slice_index}
use Rattle.std.proofs.lemmas.Bool.{and_parts, eqb-true, eqb-false, ltb-true}
use Rattle.std.proofs.lemmas.Option.{same_Some}
use Rattle.ckpt_types.specs.declared.identities.ActorName.TheVariants.{Client}
use Rattle.ckpt_types.specs.declared.identities.CallId.{CallId}
use Rattle.ckpt_types.specs.Limits.{handles_max}
use Rattle.cluster_record.specs.declared.entries.Entry.{Entry}
use Rattle.cluster_record.specs.DueCopy.{lacks_replica}
use Rattle.cluster_record.specs.Joining.{can_complete, completed, completed_on}
use Rattle.cluster_record.specs.Makings.{makings_of}
use Rattle.cluster_record.specs.Places.{put2}
use Rattle.cluster_record.specs.RecordState.{RecordState, complete_of, entry_of, is_call_of, is_up, stays, swept}
use Rattle.cluster_record.specs.Identities.{IdentitiesRise}
use Rattle.cluster_record.proofs.IdentityLaws.{IdentitiesRise-change_key}
use Rattle.cluster_record.proofs.KeptLaws.{completed_on-keeps}
use Rattle.cluster_record.proofs.JoinLaws.{completed_at, others_stay}
use Rattle.cluster_record.proofs.MakingCounts.{one_if, makings_of-changed}
use Rattle.ckpt_machine.specs.After.{opened_state, record_step, replica_copied, replica_under, with_record, with_replica_copied}
use Rattle.ckpt_machine.specs.Entries.{AllStay, WasMade}
use Rattle.ckpt_machine.specs.Invariant.{HasPlaces, InvariantIn, IsOfGeneration}
use Rattle.ckpt_machine.specs.Machine.{Machine, ReplicaState, CallState}
use Rattle.ckpt_machine.specs.Shape.{IsCompleteOn, IsSpread, Shape}
use Rattle.ckpt_machine.proofs.CompletedEntry.{attributes_then, grows, making_then, other_then, stays_then}
use Rattle.ckpt_machine.proofs.EntryLists.{AllStay-change_key, swept-all}
use Rattle.ckpt_machine.proofs.Lacking.{IsLacked, lacked_parts}
use Rattle.ckpt_machine.proofs.OptionLemmas.{IfSome-from, IsSomeAnd-at}

module _ (m : Machine) (shapes : ℕ → Shape) (inv : InvariantIn shapes m) (k r : ℕ) (e : Entry) (found : entry_of k m.cluster.entries ≡ Some e) (lacks : lacks_replica r e ≡ true) (up : is_up r m.cluster ≡ true) (was : IsSpread m k (shapes k) e) where
  -- the incarnation in which the node is up
  abbrev pub n : ℕ
  n = slice_index m.cluster.up r

  lacked : IsLacked r e
  lacked = lacked_parts r e lacks

  node_up : (nat_lt r 8 ≡ true) × (not (n == 0) ≡ true)
  node_up = and_parts (nat_lt r 8) (not (n == 0)) up

  -- it can come to be complete
  pub can : can_complete r n e ≡ true
  can = λ i. not (is_some (lacked.made i)) && not (lacked.apart i) && node_up.1 i && lacked.none i

  pub within : r < length e.complete
  within = subst (λ (size : ℕ). r < size) (sym was.nodes) (ltb-true r 8 node_up.0)

  -- the entry behind it
  abbrev pub f : Entry
  f = completed_on r n e

  -- the record behind it
  abbrev pub R : RecordState
  R = completed k r m.cluster

  pub entry_here : entry_of k R.entries ≡ Some f
  entry_here = completed_at k r m.cluster e found

  pub entry_other : (j : ℕ) → (j == k) ≡ false → entry_of j R.entries ≡ entry_of j m.cluster.entries
  entry_other j other = others_stay k r m.cluster j (eqb-false j k other)

  -- no entry is over
  pub stay : AllStay m.cluster.moment R.entries
  stay = AllStay-change_key m.cluster.moment (completed_on r n) k m.cluster.entries inv.swept (λ x there stood.
      let e_is : e ≡ x = same_Some e x (sym found ∙ there) in
      ap (λ (y : Entry). stays m.cluster.moment (completed_on r n y)) (sym e_is) ∙ stays_then r n e can within m.cluster.moment ∙ ap (stays m.cluster.moment) e_is ∙ stood)

  -- so the sweep leaves all
  pub swept_is : swept R ≡ R
  swept_is = swept-all R stay

  -- and the entry is there behind it
  pub found_then : entry_of k (swept R).entries ≡ Some f
  found_then = ap (λ (Q : RecordState). entry_of k Q.entries) swept_is ∙ entry_here

  pub rises_then : IdentitiesRise (swept R).entries
  rises_then = subst (λ (Q : RecordState). IdentitiesRise Q.entries) (sym swept_is) (IdentitiesRise-change_key (completed_on r n) (completed_on-keeps r n).1 k m.cluster.entries inv.rises)

  -- each entry that is found was there, with its nodes
  pub record Before (j : ℕ) (g : Entry) : Type 0 where
    pub entry : Entry
    pub there : entry_of j m.cluster.entries ≡ Some entry
    pub grows : (q : ℕ) → IsCompleteOn entry q → IsCompleteOn g q
    pub nodes : (q : ℕ) → ((j == k) && (q == r)) ≡ false → slice_index g.complete q ≡ slice_index entry.complete q
    pub declares : g.attributes ≡ entry.attributes
    pub making : g.making ≡ entry.making

  pub before : (j : ℕ) (g : Entry) → entry_of j R.entries ≡ Some g → Before j g
  before j g there = by_test (j == k) refl
    where
      by_test : (b : Bool) → (j == k) ≡ b → Before j g
      by_test false other = record { entry = g; there = sym (entry_other j other) ∙ there; grows = λ q complete. complete; nodes = λ q apart. refl; declares = refl; making = refl }
      by_test true same =
          let k_is : j ≡ k = eqb-true j k same in
          let g_is : f ≡ g = same_Some f g (sym entry_here ∙ ap (λ i. entry_of i R.entries) (sym k_is) ∙ there) in
          record {
            entry = e;
            there = ap (λ i. entry_of i m.cluster.entries) k_is ∙ found;
            grows = λ q complete. subst (λ (x : Entry). IsCompleteOn x q) g_is (grows r n e can within q complete);
            nodes = λ q apart. ap (λ (x : Entry). slice_index x.complete q) (sym g_is) ∙ other_then r n e can within q (sym (ap (λ b. b && (q == r)) same) ∙ apart);
            declares = ap (λ (x : Entry). x.attributes) (sym g_is) ∙ attributes_then r n e can within;
            making = ap (λ (x : Entry). x.making) (sym g_is) ∙ making_then r n e can within;
          }

  -- what was there is there
  pub found_still : (j : ℕ) (g : Entry) → entry_of j m.cluster.entries ≡ Some g → IsSome (entry_of j R.entries)
  found_still j g there = by_test (j == k) refl
    where
      by_test : (b : Bool) → (j == k) ≡ b → IsSome (entry_of j R.entries)
      by_test false other = ap (λ o. is_some o) (entry_other j other ∙ there)
      by_test true same = ap (λ o. is_some o) (ap (λ i. entry_of i R.entries) (eqb-true j k same) ∙ entry_here)

  -- what was made is made still
  pub made_still : (j : ℕ) → WasMade m.cluster j → WasMade R j
  made_still j made = record {
    given = made.given;
    made = IfSome-from (entry_of j R.entries) (λ g. g.making ≡ None) (λ g there.
        let x = before j g there in
        x.making ∙ subst (λ o. IfSome o (λ (y : Entry). y.making ≡ None)) x.there made.made);
  }

  -- as many checkpoints are in the making by each client
  pub places_then : HasPlaces m.tables R.entries
  places_then c =
      let none : one_if (is_call_of c e.making) ≡ 0 = ap (λ (x : Option CallId). one_if (is_call_of c x)) lacked.made in
      let none_then : one_if (is_call_of c f.making) ≡ 0 = ap (λ (x : Option CallId). one_if (is_call_of c x)) (making_then r n e can within ∙ lacked.made) in
      let place : length (m.tables (Client c)).handles + makings_of c m.cluster.entries ≤ handles_max = inv.places c in
      omega (arith, place, makings_of-changed c (completed_on r n) k m.cluster.entries e found, none, none_then)

  -- ---- what is under the record

  -- each replica stays, but at the node that is complete now
  pub replicas_stay : (j q : ℕ) → ((j == k) && (q == r)) ≡ false → replica_under (entry_of j R.entries) (slice_index (complete_of (entry_of j m.cluster.entries)) q) q (m.replicas j q) ≡ m.replicas j q
  replicas_stay j q apart = by_entry (entry_of j R.entries) refl
    where
      -- where it can't be there is none
      none_there : ((g : Entry) → entry_of j m.cluster.entries ≡ Some g → IsCompleteOn g q → ⊥) → (o : Option ReplicaState) → m.replicas j q ≡ o → None ≡ m.replicas j q
      none_there cant None none = sym none
      none_there cant (Some x) some = absurd (let (g, there, at) = IsSomeAnd-at (entry_of j m.cluster.entries) (λ (y : Entry). IsCompleteOn y q × IsOfGeneration y q x.generation) (inv.replicas j q x some) in cant g there at.0)

      by_free : (g : Entry) (x : Before j g) (b : Bool) → (slice_index x.entry.complete q == 0) ≡ b → cond b None (cond b (Some (opened_state g)) (m.replicas j q)) ≡ m.replicas j q
      by_free g x false there = refl
      by_free g x true free = none_there (λ y there complete. (let x_is : x.entry ≡ y = same_Some x.entry y (sym x.there ∙ there) in let w : true ≡ false = sym free ∙ ap (λ (z : Entry). slice_index z.complete q == 0) x_is ∙ complete in cc w)) (m.replicas j q) refl

      by_entry : (o : Option Entry) → entry_of j R.entries ≡ o → replica_under (entry_of j R.entries) (slice_index (complete_of (entry_of j m.cluster.entries)) q) q (m.replicas j q) ≡ m.replicas j q
      by_entry None gone =
          ap (λ o. replica_under o (slice_index (complete_of (entry_of j m.cluster.entries)) q) q (m.replicas j q)) gone
          ∙ none_there (λ g there complete. (let w : false ≡ true = sym (ap (λ o. is_some o) gone) ∙ found_still j g there in cc w)) (m.replicas j q) refl
      by_entry (Some g) there =
          let x = before j g there in
          ap (λ o. replica_under o (slice_index (complete_of (entry_of j m.cluster.entries)) q) q (m.replicas j q)) there
          ∙ ap (λ o. replica_under (Some g) (slice_index (complete_of o) q) q (m.replicas j q)) x.there
          ∙ ap (λ c. cond (c == 0) None (cond (slice_index x.entry.complete q == 0) (Some (opened_state g)) (m.replicas j q))) (x.nodes q apart)
          ∙ by_free g x (slice_index x.entry.complete q == 0) refl

  -- the state behind it, with this replica there
  abbrev pub completed_machine : Option ReplicaState → Machine
  completed_machine y = record (with_record m R) { replicas = put2 m.replicas k r y }

  -- it is what the completion leaves
  pub completed_is : (s : CallState) (t : ℤ) → with_replica_copied s k r t (record_step (completed k r) m) ≡ completed_machine (replica_copied s.call t (Some f) s.snapshot)
  completed_is s t =
      ap (λ Q. with_replica_copied s k r t (with_record m Q)) swept_is
      ∙ (λ i. record (with_record m R) { replicas = λ j q. replicas_are j q i })
    where
      replicas_are : (j q : ℕ) → put2 (with_record m R).replicas k r (replica_copied s.call t (entry_of k R.entries) s.snapshot) j q ≡ put2 m.replicas k r (replica_copied s.call t (Some f) s.snapshot) j q
      replicas_are j q = elim ((j == k) && (q == r)) as (λ b. ((j == k) && (q == r)) ≡ b → cond b (replica_copied s.call t (entry_of k R.entries) s.snapshot) ((with_record m R).replicas j q) ≡ cond b (replica_copied s.call t (Some f) s.snapshot) (m.replicas j q)) [
        | true ↦ λ here. ap (λ o. replica_copied s.call t o s.snapshot) entry_here
        | false ↦ λ apart. replicas_stay j q apart
      ] refl
