-- The nodes, each at the place of its number, as they are shown.
use Rattle.std.proofs.Common.{◌≡◌, ℕ, zero, suc, ◌<◌, ◌+◌, Bool, true, false, List, [], ◌∷◌, ◌++◌, length, map, Option, Some, None, cond, refl, sym, ap, ◌∙◌, arith}
use Rattle.std.specs.Option.{option_map}
use Rattle.std.specs.Prelude.{Result, Ok, Err, OnOk, OnErr, filter, replicate, slice_get, slice_index_or, slice_set, ◌==◌}
use Rattle.std.proofs.lemmas.Bool.{eqb-true}
use Rattle.std.proofs.lemmas.List.{length-map, length-set, map-set}
use Rattle.std.proofs.lemmas.Option.{same_Some, slice_get-get_or, slice_get-map}
use Rattle.cluster_record.specs.declared.entries.Entry.{Entry}
use Rattle.cluster_record.specs.Places.{list_or}
use Rattle.cluster_record.proofs.Places.{get_set}
use Rattle.replica.specs.Replicas.{Replica}
use Rattle.node_core.specs.Nodes.{NodeState, freed_node, is_there}
use Rattle.ckpt_machine.specs.Nodes.{freed}
use Rattle.ckpt_machine.specs.Nodes.{node_at, nodes_shown, StandByNumber}

-- a node with other replicas
abbrev pub holding : NodeState → List Replica → NodeState
holding n xs = record n { replicas = xs }

-- it has some, whether it was changed or is as it was
pub set_or_same : {T E : Type 0} (r : Result T E) (old new : NodeState) (xs : List Replica) → OnOk r (new ≡ holding old xs) → OnErr r (new ≡ old) → (ys : List Replica) × (new ≡ holding old ys)
set_or_same (Ok x) old new xs changed same = (xs, changed)
set_or_same (Err e) old new xs changed same = (old.replicas, same)

-- ---- the node of a number

module _ (nodes : List NodeState) (numbered : StandByNumber nodes) (r : ℕ) (d : NodeState) (within : r < length nodes) where
  -- it is at its place
  there : slice_get nodes r ≡ Some (slice_index_or nodes r d)
  there = slice_get-get_or nodes r d within

  -- it is the one that is shown there
  pub node_is : node_at (nodes_shown nodes) r ≡ slice_index_or nodes r d
  node_is =
      let shown : slice_get (nodes_shown nodes) r ≡ Some (slice_index_or nodes r d).replicas = slice_get-map (λ (n : NodeState). n.replicas) nodes r ∙ ap (option_map (λ (n : NodeState). n.replicas)) there in
      let number : (slice_index_or nodes r d).number ≡ r = numbered.numbers r (slice_index_or nodes r d) there in
      λ i. record { number = sym number i; replicas = list_or (shown i) }

  -- where it has other replicas, so it is shown
  pub shown_set : (xs : List Replica) → nodes_shown (slice_set nodes r (holding (slice_index_or nodes r d) xs)) ≡ slice_set (nodes_shown nodes) r xs
  shown_set xs = map-set (λ (n : NodeState). n.replicas) nodes r (holding (slice_index_or nodes r d) xs)

  -- and each keeps its place
  pub numbered_set : (xs : List Replica) → StandByNumber (slice_set nodes r (holding (slice_index_or nodes r d) xs))
  numbered_set xs = record {
    eight = length-set nodes r (holding (slice_index_or nodes r d) xs) ∙ numbered.eight;
    numbers = λ q n is. by_place q n (q == r) refl (sym (get_set nodes r (holding (slice_index_or nodes r d) xs) (slice_index_or nodes r d) q there) ∙ is);
  } where
    by_place : (q : ℕ) (n : NodeState) (b : Bool) → (q == r) ≡ b → cond b (Some (holding (slice_index_or nodes r d) xs)) (slice_get nodes q) ≡ Some n → n.number ≡ q
    by_place q n true e is = ap (λ (n : NodeState). n.number) (same_Some n _ (sym is)) ∙ numbered.numbers r (slice_index_or nodes r d) there ∙ sym (eqb-true q r e)
    by_place q n false e is = numbered.numbers q n is

-- ---- nodes that are freed of what is gone

-- so they are shown
pub shown_freed : (entries : List Entry) (nodes : List NodeState) → nodes_shown (map (freed_node entries) nodes) ≡ freed entries (nodes_shown nodes)
shown_freed entries [] = refl
shown_freed entries (n ∷ nodes) = ap (λ rest. filter (is_there entries) n.replicas ∷ rest) (shown_freed entries nodes)

-- and each keeps its place
pub numbered_freed : (entries : List Entry) (nodes : List NodeState) → StandByNumber nodes → StandByNumber (map (freed_node entries) nodes)
numbered_freed entries nodes numbered = record {
  eight = length-map nodes (freed_node entries) ∙ numbered.eight;
  numbers = λ q n is. by_node q n (slice_get nodes q) refl (sym (slice_get-map (freed_node entries) nodes q) ∙ is);
} where
  by_node : (q : ℕ) (n : NodeState) (o : Option NodeState) → slice_get nodes q ≡ o → option_map (freed_node entries) o ≡ Some n → n.number ≡ q
  by_node q n None at is = absurd (cc is)
  by_node q n (Some old) at is = ap (λ (n : NodeState). n.number) (same_Some n _ (sym is)) ∙ numbered.numbers q old at

-- ---- nodes without replicas

-- the first ones, so many
abbrev pub nodes_from : ℕ → List NodeState
nodes_from zero = []
nodes_from (suc r) = nodes_from r ++ record { number = r; replicas = [] } ∷ []

-- with one more
pub first_nodes-next : (r : ℕ) → nodes_from r ++ record { number = r; replicas = [] } ∷ [] ≡ nodes_from (r + 1)
first_nodes-next r = ap nodes_from (let next : suc r ≡ r + 1 = omega arith in next)

-- all of them
pub shown_first : nodes_shown (nodes_from 8) ≡ replicate 8 []
shown_first = refl

-- each at its place
pub numbered_first : StandByNumber (nodes_from 8)
numbered_first = record { eight = refl; numbers = by_number } where
  by_number : (r : ℕ) (n : NodeState) → slice_get (nodes_from 8) r ≡ Some n → n.number ≡ r
  by_number zero n is = ap (λ (n : NodeState). n.number) (same_Some n _ (sym is))
  by_number (suc zero) n is = ap (λ (n : NodeState). n.number) (same_Some n _ (sym is))
  by_number (suc (suc zero)) n is = ap (λ (n : NodeState). n.number) (same_Some n _ (sym is))
  by_number (suc (suc (suc zero))) n is = ap (λ (n : NodeState). n.number) (same_Some n _ (sym is))
  by_number (suc (suc (suc (suc zero)))) n is = ap (λ (n : NodeState). n.number) (same_Some n _ (sym is))
  by_number (suc (suc (suc (suc (suc zero))))) n is = ap (λ (n : NodeState). n.number) (same_Some n _ (sym is))
  by_number (suc (suc (suc (suc (suc (suc zero)))))) n is = ap (λ (n : NodeState). n.number) (same_Some n _ (sym is))
  by_number (suc (suc (suc (suc (suc (suc (suc zero))))))) n is = ap (λ (n : NodeState). n.number) (same_Some n _ (sym is))
  by_number (suc (suc (suc (suc (suc (suc (suc (suc r)))))))) n is = absurd (cc is)
