-- The active of a checkpoint, by its complete nodes: it is one of them.
use Rattle.std.proofs.Common.{◌≡◌, ℕ, suc, ◌+◌, List, [], ◌∷◌, Option, Some, None, Bool, true, false, cond, ◌==◌, refl, sym, ap, subst, ◌∙◌, arith}
use Rattle.std.specs.Prelude.{IfSome, IsSomeAnd, slice_index}
use Rattle.std.proofs.lemmas.Option.{same_Some}
use Rattle.cluster_record.specs.RecordState.{first_complete}
use Rattle.ckpt_machine.specs.Shape.{IsActiveBy}

-- the lowest complete node is complete
pub first_complete-node : (n : ℕ) (cs : List ℕ) (r : ℕ) → first_complete n cs ≡ Some r → (d : ℕ) × (r ≡ n + d) × ((slice_index cs d == 0) ≡ false)
first_complete-node n [] r is = absurd (cc is)
first_complete-node n (c ∷ cs) r is = elim (c == 0) as (λ b. (c == 0) ≡ b → cond b (first_complete (n + 1) cs) (Some n) ≡ Some r → (d : ℕ) × (r ≡ n + d) × ((slice_index (c ∷ cs) d == 0) ≡ false)) [
  | true ↦ λ none later. (let (d, at, there) = first_complete-node (n + 1) cs r later in (suc d, omega (arith, at), there))
  | false ↦ λ some here. (0, (let same : n ≡ r = same_Some n r here in omega (arith, same)), some)
] refl is

-- so it is where it is told from the first node on
pub lowest_complete : (cs : List ℕ) (r : ℕ) → first_complete 0 cs ≡ Some r → (slice_index cs r == 0) ≡ false
lowest_complete cs r first =
    let at_r = first_complete-node 0 cs r first in
    let is : r ≡ 0 + at_r.0 = at_r.1 in
    subst (λ (q : ℕ). (slice_index cs q == 0) ≡ false) (omega (arith, is)) at_r.2

-- the active is complete
pub active_by-complete : (collocated all : Bool) (cs : List ℕ) (active : Option ℕ) → IsActiveBy collocated all cs active → (r : ℕ) → active ≡ Some r → (slice_index cs r == 0) ≡ false
active_by-complete true all cs active led r is = subst (λ o. IfSome o (λ (q : ℕ). (slice_index cs q == 0) ≡ false)) is led
active_by-complete false true cs active led r is = lowest_complete cs r (sym led ∙ is)
active_by-complete false false cs active led r is = subst (λ o. IsSomeAnd o (λ (q : ℕ). (slice_index cs q == 0) ≡ false)) is led

-- it is the active still, where the nodes of a collocated checkpoint grow, and those of another stay
pub active_by-grows : (collocated all : Bool) (cs ds : List ℕ) (active : Option ℕ) → (collocated ≡ false → ds ≡ cs) → ((r : ℕ) → (slice_index cs r == 0) ≡ false → (slice_index ds r == 0) ≡ false) → IsActiveBy collocated all cs active → IsActiveBy collocated all ds active
active_by-grows true all cs ds None placed grows led = tt
active_by-grows true all cs ds (Some r) placed grows led = grows r led
active_by-grows false true cs ds active placed grows led = led ∙ ap (first_complete 0) (sym (placed refl))
active_by-grows false false cs ds None placed grows led = absurd led
active_by-grows false false cs ds (Some r) placed grows led = grows r led
