-- What the failure of a node leaves of the nodes, each at the place of its number, as they are shown.
use Rattle.std.proofs.Common.{◌≡◌, ℕ, suc, ◌+◌, List, [], ◌∷◌, map, All, Option, Some, None, refl, sym, ap, ◌∙◌, arith}
use Rattle.std.specs.Option.{option_map}
use Rattle.std.specs.Prelude.{slice_get}
use Rattle.std.proofs.lemmas.List.{length-map}
use Rattle.std.proofs.lemmas.List.Elements.{All-nil, All-cons}
use Rattle.std.proofs.lemmas.Option.{same_Some, slice_get-map}
use Rattle.cluster_record.specs.RecordState.{RecordState}
use Rattle.node_core.specs.Failing.{node_left, HoldsEachOnce}
use Rattle.node_core.specs.Nodes.{NodeState}
use Rattle.ckpt_machine.specs.ByNumber.{each_by_number}
use Rattle.ckpt_machine.specs.Holding.{replicas_on}
use Rattle.ckpt_machine.specs.Nodes.{left_on_node, nodes_left, nodes_shown, StandByNumber}

-- each keeps its place
pub numbered_left : (R : RecordState) (failed : ℕ) (nodes : List NodeState) → StandByNumber nodes → StandByNumber (map (node_left R failed) nodes)
numbered_left R failed nodes numbered = record {
  eight = length-map nodes (node_left R failed) ∙ numbered.eight;
  numbers = λ q n is. by_node q n (slice_get nodes q) refl (sym (slice_get-map (node_left R failed) nodes q) ∙ is);
} where
  by_node : (q : ℕ) (n : NodeState) (o : Option NodeState) → slice_get nodes q ≡ o → option_map (node_left R failed) o ≡ Some n → n.number ≡ q
  by_node q n None at is = absurd (cc is)
  by_node q n (Some old) at is = ap (λ (n : NodeState). n.number) (same_Some n _ (sym is)) ∙ numbered.numbers q old at

-- counted from n, where they stand so
shown_from : (R : RecordState) (failed n : ℕ) (nodes : List NodeState) → ((q : ℕ) (x : NodeState) → slice_get nodes q ≡ Some x → x.number ≡ q + n) → nodes_shown (map (node_left R failed) nodes) ≡ each_by_number (left_on_node R failed) n (nodes_shown nodes)
shown_from R failed n [] numbers = refl
shown_from R failed n (x ∷ nodes) numbers = λ i.
    (node_left R failed (record { number = first i; replicas = x.replicas })).replicas ∷ shown_from R failed (n + 1) nodes (λ q y is. numbers (suc q) y is ∙ (let moved : suc q + n ≡ q + (n + 1) = omega arith in moved)) i
  where
    first : x.number ≡ n
    first = numbers 0 x refl ∙ (let same : 0 + n ≡ n = omega arith in same)

-- so they are shown
pub shown_left : (R : RecordState) (failed : ℕ) (nodes : List NodeState) → StandByNumber nodes → nodes_shown (map (node_left R failed) nodes) ≡ nodes_left R failed (nodes_shown nodes)
shown_left R failed nodes numbered = shown_from R failed 0 nodes (λ q x is. numbered.numbers q x is ∙ (let same : q ≡ q + 0 = omega arith in same))

-- what holds each checkpoint once as it is shown does so
pub once_shown : (nodes : List NodeState) → ((r : ℕ) → HoldsEachOnce (replicas_on (nodes_shown nodes) r)) → All (λ (n : NodeState). HoldsEachOnce n.replicas) nodes
once_shown [] once = All-nil (λ (n : NodeState). HoldsEachOnce n.replicas)
once_shown (n ∷ nodes) once = All-cons (λ (n : NodeState). HoldsEachOnce n.replicas) n nodes (once 0) (once_shown nodes (λ r. once (suc r)))
