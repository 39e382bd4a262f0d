-- The active of a checkpoint behind the failure of a node.
use Rattle.std.proofs.Common.{◌≡◌, ◌≢◌, ℕ, ◌+◌, ◌≤◌, ◌<◌, List, [], ◌∷◌, Option, Some, None, is_some, Bool, true, false, cond, ◌==◌, refl, sym, ap, subst, ◌∙◌, arith, suc, zero}
use Rattle.std.specs.Prelude.{IsSome, IsSomeAnd, nat_lt, slice_set, slice_index}
use Rattle.std.proofs.lemmas.Bool.{eqb-true, eq-eqb, ltb-true, ltb-false}
use Rattle.std.proofs.lemmas.Option.{same_Some}
use Rattle.ckpt_types.specs.declared.attributes.CreationAttributes.{CreationAttributes}
use Rattle.cluster_record.specs.Failing.{with_more, most_updated, next_active}
use Rattle.cluster_record.specs.Placement.{is_all, is_collocated}
use Rattle.cluster_record.specs.RecordState.{first_complete, is_active}
use Rattle.ckpt_machine.specs.Shape.{IsActiveBy}
use Rattle.ckpt_machine.proofs.ActiveBy.{active_by-complete}
use Rattle.ckpt_machine.proofs.NodeGone.{complete_still}

-- the lowest is so still, where another goes
pub first_complete-without : (n : ℕ) (cs : List ℕ) (r : ℕ) → first_complete n cs ≢ Some (n + r) → first_complete n (slice_set cs r 0) ≡ first_complete n cs
first_complete-without n [] r other = refl
first_complete-without n (c ∷ cs) zero other = elim (c == 0) as (λ b. cond b (first_complete (n + 1) cs) (Some n) ≢ Some (n + 0) → first_complete (n + 1) cs ≡ cond b (first_complete (n + 1) cs) (Some n)) [
  | true ↦ λ other. refl
  | false ↦ λ other. absurd (other (let same : n ≡ n + 0 = omega arith in ap Some same))
] other
first_complete-without n (c ∷ cs) (suc r) other = elim (c == 0) as (λ b. cond b (first_complete (n + 1) cs) (Some n) ≢ Some (n + suc r) → cond b (first_complete (n + 1) (slice_set cs r 0)) (Some n) ≡ cond b (first_complete (n + 1) cs) (Some n)) [
  | true ↦ λ other. first_complete-without (n + 1) cs r (λ is. other (is ∙ (let same : n + 1 + r ≡ n + suc r = omega arith in ap Some same)))
  | false ↦ λ other. refl
] other

-- the one with the most updates is complete
most-node : (counts : ℕ → ℕ) (n : ℕ) (cs : List ℕ) (q : ℕ) → most_updated counts n cs ≡ Some q → (d : ℕ) × (q ≡ n + d) × ((slice_index cs d == 0) ≡ false)
most-node counts n [] q is = absurd (cc is)
most-node counts n (c ∷ cs) q is = let rest = most-node counts (n + 1) cs in elim (c == 0) as (λ b. (c == 0) ≡ b → cond b (most_updated counts (n + 1) cs) (Some (with_more counts n (most_updated counts (n + 1) cs))) ≡ Some q → (d : ℕ) × (q ≡ n + d) × ((slice_index (c ∷ cs) d == 0) ≡ false)) [
  | true ↦ λ none is. further (rest q is)
  | false ↦ λ there is. by_rest rest there (most_updated counts (n + 1) cs) refl is
] refl is
  where
    further : ((d : ℕ) × (q ≡ n + 1 + d) × ((slice_index cs d == 0) ≡ false)) → (d : ℕ) × (q ≡ n + d) × ((slice_index (c ∷ cs) d == 0) ≡ false)
    further (d, same, there) = (suc d, (let s : q ≡ n + 1 + d = same in omega (arith, s)), there)

    here : (c == 0) ≡ false → n ≡ q → (d : ℕ) × (q ≡ n + d) × ((slice_index (c ∷ cs) d == 0) ≡ false)
    here there same = (0, (let s : n ≡ q = same in omega (arith, s)), there)

    by_rest : ((p : ℕ) → most_updated counts (n + 1) cs ≡ Some p → (d : ℕ) × (p ≡ n + 1 + d) × ((slice_index cs d == 0) ≡ false)) → (c == 0) ≡ false → (o : Option ℕ) → most_updated counts (n + 1) cs ≡ o → Some (with_more counts n o) ≡ Some q → (d : ℕ) × (q ≡ n + d) × ((slice_index (c ∷ cs) d == 0) ≡ false)
    by_rest rest there None behind is = here there (same_Some n q is)
    by_rest rest there (Some p) behind is = elim (nat_lt (counts n) (counts p)) as (λ b. Some (cond b p n) ≡ Some q → (d : ℕ) × (q ≡ n + d) × ((slice_index (c ∷ cs) d == 0) ≡ false)) [
      | true ↦ λ is. further (rest q (behind ∙ is))
      | false ↦ λ is. here there (same_Some n q is)
    ] is

-- and there is one
most-some : (counts : ℕ → ℕ) (n : ℕ) (cs : List ℕ) → IsSome (first_complete n cs) → IsSome (most_updated counts n cs)
most-some counts n [] some = absurd (cc some)
most-some counts n (c ∷ cs) some = elim (c == 0) as (λ b. IsSome (cond b (first_complete (n + 1) cs) (Some n)) → IsSome (cond b (most_updated counts (n + 1) cs) (Some (with_more counts n (most_updated counts (n + 1) cs))))) [
  | true ↦ λ some. most-some counts (n + 1) cs some
  | false ↦ λ some. refl
] some

-- of the complete ones each has at most as many updates as it
pub most-greatest : (counts : ℕ → ℕ) (n : ℕ) (cs : List ℕ) (d : ℕ) → (slice_index cs d == 0) ≡ false → IsSomeAnd (most_updated counts n cs) (λ q. counts (n + d) ≤ counts q)
most-greatest counts n [] d there = absurd (cc there)
most-greatest counts n (c ∷ cs) zero there = subst (λ b. IsSomeAnd (cond b (most_updated counts (n + 1) cs) (Some (with_more counts n (most_updated counts (n + 1) cs)))) (λ q. counts (n + 0) ≤ counts q)) (sym there) (by_rest (most_updated counts (n + 1) cs))
  where
    by_more : (q : ℕ) (b : Bool) → nat_lt (counts n) (counts q) ≡ b → counts (n + 0) ≤ counts (cond b q n)
    by_more q true more = let own : counts (n + 0) ≡ counts n = ap counts (let same : n + 0 ≡ n = omega arith in same) in let less : counts n < counts q = ltb-true (counts n) (counts q) more in omega (arith, own, less)
    by_more q false more = let own : counts (n + 0) ≡ counts n = ap counts (let same : n + 0 ≡ n = omega arith in same) in omega (arith, own)

    by_rest : (o : Option ℕ) → counts (n + 0) ≤ counts (with_more counts n o)
    by_rest None = let own : counts (n + 0) ≡ counts n = ap counts (let same : n + 0 ≡ n = omega arith in same) in omega (arith, own)
    by_rest (Some q) = by_more q (nat_lt (counts n) (counts q)) refl
most-greatest counts n (c ∷ cs) (suc d) there = by_rest (most_updated counts (n + 1) cs) (most-greatest counts (n + 1) cs d there) (c == 0)
  where
    same : counts (n + 1 + d) ≡ counts (n + suc d)
    same = ap counts (let same : n + 1 + d ≡ n + suc d = omega arith in same)

    by_more : (q : ℕ) → counts (n + 1 + d) ≤ counts q → (b : Bool) → nat_lt (counts n) (counts q) ≡ b → counts (n + suc d) ≤ counts (cond b q n)
    by_more q few true more = let is : counts (n + 1 + d) ≡ counts (n + suc d) = same in let most : counts (n + 1 + d) ≤ counts q = few in omega (arith, is, most)
    by_more q few false more = let is : counts (n + 1 + d) ≡ counts (n + suc d) = same in let most : counts (n + 1 + d) ≤ counts q = few in let least : counts q ≤ counts n = ltb-false (counts n) (counts q) more in omega (arith, is, most, least)

    by_rest : (o : Option ℕ) → IsSomeAnd o (λ q. counts (n + 1 + d) ≤ counts q) → (b : Bool) → IsSomeAnd (cond b o (Some (with_more counts n o))) (λ q. counts (n + suc d) ≤ counts q)
    by_rest None none b = absurd none
    by_rest (Some q) few true = let is : counts (n + 1 + d) ≡ counts (n + suc d) = same in let most : counts (n + 1 + d) ≤ counts q = few in omega (arith, is, most)
    by_rest (Some q) few false = by_more q few (nat_lt (counts n) (counts q)) refl

-- ---- the active

-- one that is chosen is complete
pub next_complete : (counts : ℕ → ℕ) (a : CreationAttributes) (cs : List ℕ) (q : ℕ) → next_active counts a cs ≡ Some q → (slice_index cs q == 0) ≡ false
next_complete counts a cs q chosen = by_kind (is_collocated a) (is_all a) chosen
  where
    by_kind : (b c : Bool) → cond b None (cond c (first_complete 0 cs) (most_updated counts 0 cs)) ≡ Some q → (slice_index cs q == 0) ≡ false
    by_kind true c none = absurd (cc none)
    by_kind false true lowest = active_by-complete false true cs (first_complete 0 cs) refl q lowest
    by_kind false false most = let (d, same, there) = most-node counts 0 cs q most in subst (λ (p : ℕ). (slice_index cs p == 0) ≡ false) (let s : q ≡ 0 + d = same in omega (arith, s)) there

-- a node is that of the active
pub active_is : (o : Option ℕ) (q : ℕ) → is_active o q ≡ true → o ≡ Some q
active_is None q none = absurd (cc none)
active_is (Some p) q is = ap Some (eqb-true p q is)

-- it stays where it was on another node
pub active_stays : (collocated all : Bool) (cs : List ℕ) (r : ℕ) (active : Option ℕ) → IsActiveBy collocated all cs active → is_active active r ≡ false → IsActiveBy collocated all (slice_set cs r 0) active
active_stays true all cs r None by other = tt
active_stays true all cs r (Some q) by other = complete_still cs r q other by
active_stays false true cs r active by other = by ∙ sym (first_complete-without 0 cs r (λ is. absurd (let same : 0 + r ≡ r = omega arith in let w : true ≡ false = sym (eq-eqb (0 + r) r same) ∙ ap (λ o. is_active o r) (sym (by ∙ is)) ∙ other in cc w)))
active_stays false false cs r None by other = absurd by
active_stays false false cs r (Some q) by other = complete_still cs r q other by

-- or there is another
pub active_anew : (counts : ℕ → ℕ) (a : CreationAttributes) (cs : List ℕ) → IsSome (first_complete 0 cs) → IsActiveBy (is_collocated a) (is_all a) cs (next_active counts a cs)
active_anew counts a cs some = by_kind (is_collocated a) (is_all a)
  where
    by_most : (o : Option ℕ) → most_updated counts 0 cs ≡ o → is_some o ≡ true → IsSomeAnd o (λ q. (slice_index cs q == 0) ≡ false)
    by_most None none some = absurd (cc some)
    by_most (Some q) is some = let (d, same, there) = most-node counts 0 cs q is in subst (λ (p : ℕ). (slice_index cs p == 0) ≡ false) (let s : q ≡ 0 + d = same in omega (arith, s)) there

    by_kind : (b c : Bool) → IsActiveBy b c cs (cond b None (cond c (first_complete 0 cs) (most_updated counts 0 cs)))
    by_kind true c = tt
    by_kind false true = refl
    by_kind false false = by_most (most_updated counts 0 cs) refl (most-some counts 0 cs some)
