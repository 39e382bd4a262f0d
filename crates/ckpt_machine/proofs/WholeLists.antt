-- Where all keys stay, a filter leaves all.
use Rattle.std.proofs.Common.{◌≡◌, ℕ, suc, Bool, true, false, List, [], ◌∷◌, ◌++◌, map, refl, ap, ◌∙◌, cond}
use Rattle.std.specs.Prelude.{Option, Some, is_some, ◌==◌, filter, slice_set}
use Rattle.std.proofs.lemmas.Bool.{eq-eqb}
use Rattle.std.proofs.lemmas.List.{map-set}
use Rattle.std.proofs.lemmas.List.Elements.{filter-append}
use Rattle.cluster_record.specs.Places.{find_key}
use Rattle.node_core.specs.Nodes.{replica_key}
use Rattle.replica.specs.Replicas.{Replica}
use Rattle.ckpt_machine.specs.Holding.{replicas_on}

-- ---- found by a key

module _ {X : Type 0} (key : X → ℕ) where
  -- something is found of the key
  abbrev Has : ℕ → List X → Type 0
  Has k xs = is_some (find_key key k xs) ≡ true

  has_own : (x : X) (o : Option X) → is_some (cond (key x == key x) (Some x) o) ≡ true
  has_own x o = ap (λ b. is_some (cond b (Some x) o)) (eq-eqb (key x) (key x) refl)

  pub has_more : (b : Bool) (x : X) (o : Option X) → is_some o ≡ true → is_some (cond b (Some x) o) ≡ true
  has_more true x o is = refl
  has_more false x o is = is

  -- where all keys that are found stay, a filter by the key leaves all
  pub whole_by_key : (s : ℕ → Bool) (xs : List X) → ((k : ℕ) → Has k xs → s k ≡ true) → filter (λ x. s (key x)) xs ≡ xs
  whole_by_key s [] stay = refl
  whole_by_key s (x ∷ xs) stay =
      let rest : List X = filter (λ x. s (key x)) xs in
      ap (λ b. cond b (x ∷ rest) rest) (stay (key x) (has_own x (find_key key (key x) xs)))
      ∙ ap (λ (ys : List X). x ∷ ys) (whole_by_key s xs (λ k is. stay k (has_more (key x == k) x (find_key key k xs) is)))

-- ---- what the nodes have

-- a replica stays by its checkpoint
abbrev pub staying : (ℕ → Bool) → List Replica → List Replica
staying s xs = filter (λ x. s (replica_key x)) xs

pub whole_nodes : (f : List Replica → List Replica) (nodes : List (List Replica)) → ((r : ℕ) → f (replicas_on nodes r) ≡ replicas_on nodes r) → map f nodes ≡ nodes
whole_nodes f [] whole = refl
whole_nodes f (xs ∷ nodes) whole = λ i. whole 0 i ∷ whole_nodes f nodes (λ r. whole (suc r)) i

pub whole_set : (f : List Replica → List Replica) (nodes : List (List Replica)) (r : ℕ) (xs : List Replica) → map f nodes ≡ nodes → f xs ≡ xs → map f (slice_set nodes r xs) ≡ slice_set nodes r xs
whole_set f nodes r xs whole one = map-set f nodes r xs ∙ (λ i. slice_set (whole i) r (one i))

pub whole_pushed : {X : Type 0} (p : X → Bool) (xs : List X) (y : X) → filter p xs ≡ xs → p y ≡ true → filter p (xs ++ y ∷ []) ≡ xs ++ y ∷ []
whole_pushed p xs y whole one = filter-append p xs (y ∷ []) ∙ (λ i. whole i ++ cond (one i) (y ∷ []) [])
