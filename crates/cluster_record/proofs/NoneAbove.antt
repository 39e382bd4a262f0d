-- The highest node of a call: what is looked up of the nodes up to it, and which it is after a change.
use Rattle.std.proofs.Common.{◌≤◌, ◌≢◌, ◌≡◌, ℕ, zero, suc, ◌+◌, ◌<◌, List, [], ◌∷◌, length, drop, Option, Some, None, Bool, true, false, not, ◌&&◌, ◌==◌, refl, sym, ap, subst, ◌∙◌, arith}
use Rattle.std.specs.Prelude.{slice_index, slice_set}
use Rattle.std.proofs.lemmas.List.{get_or-set_other}
use Rattle.std.proofs.lemmas.Option.{same_Some}
use Rattle.std.proofs.lemmas.Bool.{eqb-true, and_parts}
use Rattle.cluster_record.specs.StepDone.{has, last_having, or_here, HasNoneAbove}

-- ---- what is looked up

-- a node is not had with no incarnation
has-unowned : (c o : ℕ) → o ≡ 0 → has c o ≡ false
has-unowned c o none = ap (λ (n : ℕ). not (c == 0) && (c == n)) none ∙ neither (c == 0) where
  neither : (b : Bool) → (not b && b) ≡ false
  neither true = refl
  neither false = refl

last_having-nothing : (n : ℕ) (cs : List ℕ) → last_having n cs [] ≡ None
last_having-nothing n [] = refl
last_having-nothing n (c ∷ cs) = refl

-- it has none from the node k on, so none is found there
pub last_having-behind : (k n : ℕ) (cs os : List ℕ) → ((r : ℕ) → k ≤ r → slice_index os r ≡ 0) → last_having n (drop k cs) (drop k os) ≡ None
last_having-behind zero n [] os none = refl
last_having-behind zero n (c ∷ cs) [] none = refl
last_having-behind zero n (c ∷ cs) (o ∷ os) none =
    let rest : last_having (n + 1) cs os ≡ None = last_having-behind zero (n + 1) cs os (λ r from. none (suc r) (omega arith)) in
    let here : has c o ≡ false = has-unowned c o (none 0 (omega arith)) in
    (λ i. or_here (rest i) (here i) n)
last_having-behind (suc k) n [] os none = refl
last_having-behind (suc k) n (c ∷ cs) [] none = last_having-nothing n (drop k cs)
last_having-behind (suc k) n (c ∷ cs) (o ∷ os) none = last_having-behind k n cs os (λ r from. none (suc r) (omega (arith, from)))

-- it has a node, and none behind it: that is the highest
pub last_having-highest : (r m n p : ℕ) (cs os : List ℕ) → p ≡ m + r → n ≡ p + 1 → last_having n (drop (suc r) cs) (drop (suc r) os) ≡ None → has (slice_index cs r) (slice_index os r) ≡ true → last_having m cs os ≡ Some p
last_having-highest r m n p [] os at next none had = absurd (cc had)
last_having-highest r m n p (c ∷ cs) [] at next none had = absurd (let not_had : has (slice_index (c ∷ cs) r) 0 ≡ false = has-unowned (slice_index (c ∷ cs) r) 0 refl in cc (had, not_had))
last_having-highest zero m n p (c ∷ cs) (o ∷ os) at next none had =
    let behind : n ≡ m + 1 = omega (arith, at, next) in
    let rest : last_having (m + 1) cs os ≡ None = subst (λ (k : ℕ). last_having k cs os ≡ None) behind none in
    let here : m ≡ p = omega (arith, at) in
    (λ i. or_here (rest i) (had i) m) ∙ ap Some here
last_having-highest (suc r) m n p (c ∷ cs) (o ∷ os) at next none had =
    ap (λ (found : Option ℕ). or_here found (has c o) m) (last_having-highest r (m + 1) n p cs os (omega (arith, at)) next none had)

-- what is found is a node of the list, with the incarnation that the call has there
record IsHad (n : ℕ) (cs os : List ℕ) (r : ℕ) : Type 0 where
  pub place : ℕ
  pub at : r ≡ n + place
  pub within : place < length cs
  pub same : slice_index os place ≡ slice_index cs place

had_from : (n r : ℕ) (cs os : List ℕ) → last_having n cs os ≡ Some r → IsHad n cs os r
had_from n r [] os is = absurd (cc is)
had_from n r (c ∷ cs) [] is = absurd (cc is)
had_from n r (c ∷ cs) (o ∷ os) is = by (last_having (n + 1) cs os) (has c o) refl is (had_from (n + 1) r cs os) where
  by : (found : Option ℕ) (here : Bool) → has c o ≡ here → or_here found here n ≡ Some r → (found ≡ Some r → IsHad (n + 1) cs os r) → IsHad n (c ∷ cs) (o ∷ os) r
  by (Some q) here had is further =
      let more : IsHad (n + 1) cs os r = further is in
      let at : r ≡ (n + 1) + more.place = more.at in
      let within : more.place < length cs = more.within in
      record { place = suc more.place; at = omega (arith, at); within = omega (arith, within); same = more.same }
  by None true had is further =
      let at : n ≡ r = same_Some n r is in
      record { place = 0; at = omega (arith, at); within = omega arith; same = sym (eqb-true c o (and_parts (not (c == 0)) (c == o) had).1) }
  by None false had is further = absurd (cc is)

pub last_having-had : (nodes own : List ℕ) (r : ℕ) → last_having 0 nodes own ≡ Some r → (r < length nodes) × (slice_index own r ≡ slice_index nodes r)
last_having-had nodes own r is =
    let found : IsHad 0 nodes own r = had_from 0 r nodes own is in
    let at : found.place ≡ r = (let at : r ≡ 0 + found.place = found.at in omega (arith, at)) in
    (subst (λ (q : ℕ). q < length nodes) at found.within, subst (λ (q : ℕ). slice_index own q ≡ slice_index nodes q) at found.same)

-- ---- which is the highest after a change

-- it comes to have a higher node: that is the highest then
pub HasNoneAbove-set_higher : (top r n : ℕ) (own : List ℕ) → top < r → HasNoneAbove top own → HasNoneAbove r (slice_set own r n)
HasNoneAbove-set_higher top r n own higher none q above =
    let other : q ≢ r = omega (arith, above) in
    get_or-set_other own r q n 0 other ∙ none q (omega (arith, higher, above))

-- what it has of a node that is not above the highest changes, or it has that node no more
pub HasNoneAbove-set_within : (top r n : ℕ) (own : List ℕ) → r ≤ top → HasNoneAbove top own → HasNoneAbove top (slice_set own r n)
HasNoneAbove-set_within top r n own within none q above =
    let other : q ≢ r = omega (arith, within, above) in
    get_or-set_other own r q n 0 other ∙ none q above
