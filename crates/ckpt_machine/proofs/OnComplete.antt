-- Replicas are on complete nodes still, after a step of the record and where one of them is changed; and what holds of each complete one.
use Rattle.std.proofs.Common.{◌≡◌, ℕ, ◌≤◌, arith, List, Option, Some, None, Bool, true, false, cond, ◌&&◌, ◌==◌, refl, sym, ap, subst, ◌∙◌}
use Rattle.std.specs.Prelude.{IfSome, IsSomeAnd, slice_index}
use Rattle.std.proofs.lemmas.Bool.{eqb-true, and_parts}
use Rattle.std.proofs.lemmas.Option.{same_Some}
use Rattle.cluster_record.specs.declared.entries.Entry.{Entry}
use Rattle.cluster_record.specs.Places.{put2}
use Rattle.cluster_record.specs.RecordState.{RecordState, entry_of, complete_of}
use Rattle.ckpt_machine.specs.Invariant.{IsOfGeneration, IsCompleteAt}
use Rattle.ckpt_machine.specs.Later.{IsLaterEntry}
use Rattle.ckpt_machine.specs.Complete.{complete_replicas, replicas_from}
use Rattle.ckpt_machine.specs.GuardTerms.{OnEach}
use Rattle.ckpt_machine.specs.Machine.{Machine, ReplicaState}
use Rattle.ckpt_machine.specs.Shape.{IsCompleteOn}
use Rattle.ckpt_machine.specs.After.{opened_state, replica_under}
use Rattle.ckpt_machine.proofs.NodeLists.{OnEach-from}

-- the generation of its checkpoint is one that each replica may have
pub present_generation : (e : Entry) (r generation : ℕ) → generation ≡ e.generation → IsOfGeneration e r generation
present_generation e r generation same = record { within = omega (arith, same); led = λ led. same }

-- a replica may have what it had, under a later entry
pub IsOfGeneration-later : (up : List ℕ) (e f : Entry) (r generation : ℕ) → IsLaterEntry up e f → IsOfGeneration e r generation → IsOfGeneration f r generation
IsOfGeneration-later up e f r generation later was = record {
  within = let at_most : generation ≤ e.generation = was.within in let same : f.generation ≡ e.generation = later.generation in omega (arith, at_most, same);
  led = λ led. was.led (sym later.active ∙ led) ∙ sym later.generation;
}

-- what is left of a replica under an entry is on a node on which this is complete, and may have its generation, where it had one that it may have
pub under_complete : (o : Option Entry) (before r : ℕ) (was : Option ReplicaState) (x : ReplicaState) → ((e : Entry) → o ≡ Some e → was ≡ Some x → IsOfGeneration e r x.generation) → replica_under o before r was ≡ Some x → IsSomeAnd o (λ e. IsCompleteOn e r × IsOfGeneration e r x.generation)
under_complete None before r was x had gone = absurd (cc gone)
under_complete (Some e) before r was x had is =
    elim (slice_index e.complete r == 0) as (λ b. cond b None (cond (before == 0) (Some (opened_state e)) was) ≡ Some x → (b ≡ false) × IsOfGeneration e r x.generation) [ true ↦ λ gone. absurd (cc gone) | false ↦ λ there. (refl, by_before (before == 0) there) ] is
  where
    by_before : (b : Bool) → cond b (Some (opened_state e)) was ≡ Some x → IsOfGeneration e r x.generation
    by_before true new = present_generation e r x.generation (ap (λ (y : ReplicaState). y.generation) (sym (same_Some (opened_state e) x new)))
    by_before false old = had e refl old

-- the changed one is on a complete node with a generation that it may have, and so were the others
pub put_complete : (R : RecordState) (replicas : ℕ → ℕ → Option ReplicaState) (k r : ℕ) (y : ReplicaState) → IsCompleteAt R k r y.generation → ((j q : ℕ) (x : ReplicaState) → replicas j q ≡ Some x → IsCompleteAt R j q x.generation)
    → (j q : ℕ) (x : ReplicaState) → put2 replicas k r (Some y) j q ≡ Some x → IsCompleteAt R j q x.generation
put_complete R replicas k r y here others j q x is = elim ((j == k) && (q == r)) as (λ b. ((j == k) && (q == r)) ≡ b → cond b (Some y) (replicas j q) ≡ Some x → IsCompleteAt R j q x.generation) [
  | true ↦ λ at some.
      let (ckpt, node) = and_parts (j == k) (q == r) at in
      subst (λ j. IsCompleteAt R j q x.generation) (sym (eqb-true j k ckpt)) (subst (λ q. IsCompleteAt R k q x.generation) (sym (eqb-true q r node)) (subst (λ (z : ReplicaState). IsCompleteAt R k r z.generation) (same_Some y x some) here))
  | false ↦ λ at was. others j q x was
] refl is

pub IfSome-more : {X : Type 0} (o : Option X) (P Q : X → Type 0) → ((x : X) → P x → Q x) → IsSomeAnd o P → IfSome o Q
IfSome-more None P Q more p = tt
IfSome-more (Some x) P Q more p = more x p

-- what holds of each complete replica
pub on_complete : (m : Machine) (k : ℕ) (e : Entry) → entry_of k m.cluster.entries ≡ Some e → (P : ReplicaState → Type 0) → ((q : ℕ) → IsCompleteOn e q → IfSome (m.replicas k q) P) → OnEach P (complete_replicas m k)
on_complete m k e found P each =
    subst (λ o. OnEach P (replicas_from (m.replicas k) 0 (complete_of o))) (sym found) (OnEach-from P (m.replicas k) 0 e.complete (λ d there. subst (λ (j : ℕ). IfSome (m.replicas k j) P) (omega arith) (each d there)))
