-- What holds of each complete replica holds of each replica that is there.
use Rattle.std.proofs.Common.{◌≡◌, ℕ, zero, suc, ◌+◌, List, [], ◌∷◌, Option, Some, None, Bool, true, false, cond, ◌==◌, ap, subst, ◌∙◌, arith}
use Rattle.std.specs.Prelude.{slice_index}
use Rattle.std.proofs.lemmas.Option.{same_Some}
use Rattle.cluster_record.specs.RecordState.{entry_of, complete_of}
use Rattle.ckpt_machine.specs.Complete.{complete_replicas, replicas_from, with_replica}
use Rattle.ckpt_machine.specs.GuardTerms.{OnEach}
use Rattle.ckpt_machine.specs.Machine.{Machine, ReplicaState}
use Rattle.ckpt_machine.specs.Shape.{IsCompleteOn}
use Rattle.ckpt_machine.proofs.Follows.{IsBare}
use Rattle.ckpt_machine.proofs.OptionLemmas.{IsSomeAnd-at}

-- what holds of each complete replica holds of that of a node
module _ (P : ReplicaState → Type 0) where
  rest_of : (n : ℕ) (rest : List (ℕ × ReplicaState)) (b : Bool) (o : Option ReplicaState) → OnEach P (cond b rest (with_replica n o rest)) → OnEach P rest
  rest_of n rest true o each = each
  rest_of n rest false None each = each
  rest_of n rest false (Some x) each = each.1

  first_of : (n : ℕ) (rest : List (ℕ × ReplicaState)) (b : Bool) (o : Option ReplicaState) (y : ReplicaState) → b ≡ false → o ≡ Some y → OnEach P (cond b rest (with_replica n o rest)) → P y
  first_of n rest true o y some at each = absurd (cc some)
  first_of n rest false None y some at each = absurd (cc at)
  first_of n rest false (Some x) y some at each = subst P (same_Some x y at) each.0

  each_at : (f : ℕ → Option ReplicaState) (n : ℕ) (cs : List ℕ) → OnEach P (replicas_from f n cs) → (d : ℕ) (y : ReplicaState) → (slice_index cs d == 0) ≡ false → f (n + d) ≡ Some y → P y
  each_at f n [] each d y some at = absurd (cc some)
  each_at f n (c ∷ cs) each zero y some at = first_of n (replicas_from f (n + 1) cs) (c == 0) (f n) y some (ap f (let here : n ≡ n + 0 = omega arith in here) ∙ at) each
  each_at f n (c ∷ cs) each (suc d) y some at = each_at f (n + 1) cs (rest_of n (replicas_from f (n + 1) cs) (c == 0) (f n) each) d y some (ap f (let there : n + 1 + d ≡ n + suc d = omega arith in there) ∙ at)

-- and what holds of each complete replica holds of each that is there
pub on_each_there : (m : Machine) → IsBare m → (k : ℕ) (P : ReplicaState → Type 0) → OnEach P (complete_replicas m k) → (q : ℕ) (y : ReplicaState) → m.replicas k q ≡ Some y → P y
on_each_there m bare k P each q y at =
    let (f, is, complete) = IsSomeAnd-at (entry_of k m.cluster.entries) (λ e. IsCompleteOn e q) (bare.complete k q y at) in
    each_at P (m.replicas k) 0 f.complete (subst (λ o. OnEach P (replicas_from (m.replicas k) 0 (complete_of o))) is each) q y complete (ap (m.replicas k) (let same : 0 + q ≡ q = omega arith in same) ∙ at)
