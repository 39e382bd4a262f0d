-- Lists of effects that go on from one another.
use Rattle.std.proofs.Common.{◌≡◌, ◌≤◌, List, [], ◌∷◌, ◌++◌, length, refl, sym, ap, subst, ◌∙◌, append_assoc, arith}
use Rattle.std.proofs.lemmas.List.{append-nil}
use Rattle.ckpt_machine.specs.Machine.{Effect}
use Rattle.ckpt_machine.specs.Replays.{IsPrefix}

-- each list goes on from itself
pub prefix_same : (xs : List Effect) → IsPrefix xs xs
prefix_same xs = ([], sym (append-nil xs))

-- each list goes on from an equal one
pub prefix_of_same : (xs ys : List Effect) → ys ≡ xs → IsPrefix xs ys
prefix_of_same xs ys same = subst (IsPrefix xs) (sym same) (prefix_same xs)

-- each list goes on from the empty one
pub prefix_of_none : (xs ys : List Effect) → xs ≡ [] → IsPrefix xs ys
prefix_of_none xs ys none = (ys, ap (λ (xs : List Effect). xs ++ ys) (sym none))

-- what goes on from a list that goes on from another goes on from that one too
pub prefix_then : (xs ys zs : List Effect) → IsPrefix xs ys → IsPrefix ys zs → IsPrefix xs zs
prefix_then xs ys zs one two = (one.0 ++ two.0, two.1 ∙ ap (λ (ys : List Effect). ys ++ two.0) one.1 ∙ append_assoc xs one.0 two.0)

-- of two first parts of one list, one that is no shorter goes on from the other
pub prefix_longer : (xs ys zs : List Effect) → IsPrefix xs zs → IsPrefix ys zs → length xs ≤ length ys → IsPrefix xs ys
prefix_longer [] ys zs one two few = (ys, refl)
prefix_longer (x ∷ xs) [] zs one two few = absurd (omega (arith, few))
prefix_longer (x ∷ xs) (y ∷ ys) [] one two few = absurd (let is = one.1 in cc is)
prefix_longer (x ∷ xs) (y ∷ ys) (z ∷ zs) one two few =
    let first = one.1 in
    let second = two.1 in
    let head : y ≡ x = (let a : z ≡ x = cc first in let b : z ≡ y = cc second in sym b ∙ a) in
    let first_rest : zs ≡ xs ++ one.0 = cc first in
    let second_rest : zs ≡ ys ++ two.0 = cc second in
    let (more, is) = prefix_longer xs ys zs (one.0, first_rest) (two.0, second_rest) (omega (arith, few)) in
    (more, λ i. head i ∷ is i)
