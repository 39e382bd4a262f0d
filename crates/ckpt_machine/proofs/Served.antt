-- Lists by node of a synchronisation: which nodes its steps have served, the next that is not, and how many are left.
use Rattle.std.specs.List.{list_any}
use Rattle.std.proofs.Common.{◌≡◌, ℕ, zero, suc, ◌+◌, ◌<◌, ◌≤◌, List, [], ◌∷◌, length, Some, None, Bool, true, false, cond, not, ◌&&◌, ◌||◌, ◌==◌, replicate, refl, sym, ap, ◌∙◌, arith}
use Rattle.std.specs.Prelude.{slice_get, slice_index, slice_set}
use Rattle.std.proofs.lemmas.Bool.{eqb-true, eqb-false, ne_eqb}
use Rattle.std.proofs.lemmas.Option.{same_Some}
use Rattle.ckpt_types.specs.declared.answers.Answer.TheVariants.{Pulled}
use Rattle.ckpt_types.specs.declared.answers.Outcome.TheVariants.{Done}
use Rattle.cluster_record.specs.DueSync.{is_unserved, first_unserved, ended_by}
use Rattle.cluster_record.specs.StepDone.{StepDone}
use Rattle.ckpt_machine.specs.ActiveGuards.{serves, all_served}
use Rattle.ckpt_machine.specs.Left.{unserved}

-- ---- lists of what is so by node

-- at the beginning it is so of all nodes alike
pub slice_get-replicate : {A : Type 0} (n : ℕ) (x : A) (r : ℕ) → r < n → slice_get (replicate n x) r ≡ Some x
slice_get-replicate zero x r below = absurd (omega (arith, below))
slice_get-replicate (suc n) x zero below = refl
slice_get-replicate (suc n) x (suc r) below = slice_get-replicate n x r (omega (arith, below))

-- what is set is so then
pub slice_get-set : {A : Type 0} (xs : List A) (r : ℕ) (x : A) → r < length xs → slice_get (slice_set xs r x) r ≡ Some x
slice_get-set [] r x below = absurd (omega (arith, below))
slice_get-set (y ∷ ys) zero x below = refl
slice_get-set (y ∷ ys) (suc r) x below = slice_get-set ys r x (omega (arith, below))

-- and of another it is what it was
pub slice_get-other : {A : Type 0} (xs : List A) (r q : ℕ) (x : A) → (r == q) ≡ false → slice_get (slice_set xs r x) q ≡ slice_get xs q
slice_get-other [] r q x other = refl
slice_get-other (y ∷ ys) zero zero x other = absurd (cc other)
slice_get-other (y ∷ ys) zero (suc q) x other = refl
slice_get-other (y ∷ ys) (suc r) zero x other = refl
slice_get-other (y ∷ ys) (suc r) (suc q) x other = slice_get-other ys r q x (ne_eqb r q (λ same. eqb-false (suc r) (suc q) other (ap suc same)))

-- what was so, or is so of this node, is so behind a step that serves it
pub served_set : (bs : List Bool) (q r : ℕ) (old : Bool) → q < length bs → slice_get bs r ≡ Some old → slice_get (slice_set bs q true) r ≡ Some (((q == r) && true) || old)
served_set bs q r old within was = by_node (q == r) refl
  where
    by_node : (b : Bool) → (q == r) ≡ b → slice_get (slice_set bs q true) r ≡ Some (((q == r) && true) || old)
    by_node true same = ap (λ n. slice_get (slice_set bs q true) n) (sym (eqb-true q r same)) ∙ slice_get-set bs q true within ∙ ap (λ b. Some ((b && true) || old)) (sym same)
    by_node false other = slice_get-other bs q r true other ∙ was ∙ ap (λ b. Some ((b && true) || old)) (sym other)

-- so one that was served is served still
pub served_still : (bs : List Bool) (q r : ℕ) → q < length bs → slice_get bs r ≡ Some true → slice_get (slice_set bs q true) r ≡ Some true
served_still bs q r within was = served_set bs q r true within was ∙ ap Some (or_true ((q == r) && true))
  where
    or_true : (b : Bool) → (b || true) ≡ true
    or_true true = refl
    or_true false = refl

-- there are as many as there were
pub set_length : {A : Type 0} (xs : List A) (r : ℕ) (x : A) → length (slice_set xs r x) ≡ length xs
set_length [] r x = refl
set_length (y ∷ ys) zero x = refl
set_length (y ∷ ys) (suc r) x = ap suc (set_length ys r x)

-- ---- where the call ends

-- the list has, by node from n on, whether the steps have served it
abbrev pub TellsServed : List StepDone → ℕ → List ℕ → List Bool → Type 0
TellsServed steps n cs bs = (i : ℕ) → i < length cs → slice_get bs i ≡ Some (list_any (serves (n + i)) steps)

rest_tells : (steps : List StepDone) (n c : ℕ) (cs : List ℕ) (b : Bool) (bs : List Bool) → TellsServed steps n (c ∷ cs) (b ∷ bs) → TellsServed steps (n + 1) cs bs
rest_tells steps n c cs b bs tells i below = tells (suc i) (omega (arith, below)) ∙ ap (λ q. Some (list_any (serves q) steps)) (let same : n + suc i ≡ (n + 1) + i = omega arith in same)

-- of all nodes
pub tells_all : (steps : List StepDone) (cs : List ℕ) (bs : List Bool) → length cs ≡ 8 → ((r : ℕ) → r < 8 → slice_get bs r ≡ Some (list_any (serves r) steps)) → TellsServed steps 0 cs bs
tells_all steps cs bs nodes tells i below = tells i (omega (arith, nodes, below)) ∙ ap (λ q. Some (list_any (serves q) steps)) (let same : i ≡ 0 + i = omega arith in same)

-- where none is left that is not served, all complete nodes are served by the steps; the call then ends with the count, and else it goes on
pub ends_alike : (steps : List StepDone) (count n : ℕ) (cs : List ℕ) (bs : List Bool) → TellsServed steps n cs bs → ended_by count (first_unserved n cs bs) ≡ cond (all_served steps n cs) (Some (Done (Pulled count))) None
ends_alike steps count n [] bs tells = refl
ends_alike steps count n (c ∷ cs) [] tells = absurd (let w = tells 0 (omega arith) in cc w)
ends_alike steps count n (c ∷ cs) (b ∷ bs) tells =
    by_node (c == 0) b (list_any (serves n) steps) (let first = tells 0 (omega arith) in let here : n + 0 ≡ n = omega arith in same_Some b (list_any (serves n) steps) (first ∙ ap (λ q. Some (list_any (serves q) steps)) here)) (ends_alike steps count (n + 1) cs bs (rest_tells steps n c cs b bs tells))
  where
    by_node : (none b served : Bool) → b ≡ served → ended_by count (first_unserved (n + 1) cs bs) ≡ cond (all_served steps (n + 1) cs) (Some (Done (Pulled count))) None
        → ended_by count (cond (not none && not b) (Some n) (first_unserved (n + 1) cs bs)) ≡ cond ((none || served) && all_served steps (n + 1) cs) (Some (Done (Pulled count))) None
    by_node true b served same rest = rest
    by_node false true true same rest = rest
    by_node false false false same rest = refl
    by_node false true false same rest = absurd (cc same)
    by_node false false true same rest = absurd (cc same)

-- so all are served where none is left
pub all_are : (steps : List StepDone) (cs : List ℕ) (bs : List Bool) → TellsServed steps 0 cs bs → first_unserved 0 cs bs ≡ None → all_served steps 0 cs ≡ true
all_are steps cs bs tells none = by_test (all_served steps 0 cs) (ap (ended_by 0) (sym none) ∙ ends_alike steps 0 0 cs bs tells)
  where
    by_test : (b : Bool) → Some (Done (Pulled 0)) ≡ cond b (Some (Done (Pulled 0))) None → b ≡ true
    by_test true ends = refl
    by_test false ends = absurd (cc ends)

-- ---- the next node

-- it is complete, and not served
pub record UnservedFirst (n : ℕ) (cs : List ℕ) (bs : List Bool) (r : ℕ) : Type 0 where
  pub place : ℕ
  pub at : r ≡ n + place
  pub complete : (slice_index cs place == 0) ≡ false
  pub unserved : slice_get bs place ≡ Some false

pub first_unserved-is : (n : ℕ) (cs : List ℕ) (bs : List Bool) (r : ℕ) → first_unserved n cs bs ≡ Some r → UnservedFirst n cs bs r
first_unserved-is n [] bs r e = absurd (cc e)
first_unserved-is n (c ∷ cs) [] r e = absurd (cc e)
first_unserved-is n (c ∷ cs) (b ∷ bs) r e = by_node (first_unserved-is (n + 1) cs bs r) (c == 0) b refl refl e
  where
    here : (c == 0) ≡ false → b ≡ false → Some n ≡ Some r → UnservedFirst n (c ∷ cs) (b ∷ bs) r
    here some free is = record { place = 0; at = (let same : n ≡ r = same_Some n r is in omega (arith, same)); complete = some; unserved = ap Some free }

    behind : UnservedFirst (n + 1) cs bs r → UnservedFirst n (c ∷ cs) (b ∷ bs) r
    behind more = record { place = suc more.place; at = (let at : r ≡ (n + 1) + more.place = more.at in omega (arith, at)); complete = more.complete; unserved = more.unserved }

    by_node : (first_unserved (n + 1) cs bs ≡ Some r → UnservedFirst (n + 1) cs bs r) → (none was : Bool) → (c == 0) ≡ none → b ≡ was → cond (not none && not was) (Some n) (first_unserved (n + 1) cs bs) ≡ Some r → UnservedFirst n (c ∷ cs) (b ∷ bs) r
    by_node more true was gone is e = behind (more e)
    by_node more false true some is e = behind (more e)
    by_node more false false some is e = here some is e

-- ---- how many are left

abbrev one_if : Bool → ℕ
one_if b = cond b 1 0

-- no more than there are nodes
pub unserved-few : (cs : List ℕ) (bs : List Bool) → unserved cs bs ≤ length cs
unserved-few [] bs = omega arith
unserved-few (c ∷ cs) [] = omega arith
unserved-few (c ∷ cs) (b ∷ bs) = let rest = unserved-few cs bs in let one = one_at_most (is_unserved c b) in omega (arith, rest, one)
  where
    one_at_most : (b : Bool) → one_if b ≤ 1
    one_at_most true = omega arith
    one_at_most false = omega arith

-- where one more is served one less is left
pub unserved-set : (cs : List ℕ) (bs : List Bool) (r : ℕ) → (slice_index cs r == 0) ≡ false → slice_get bs r ≡ Some false → unserved cs (slice_set bs r true) + 1 ≡ unserved cs bs
unserved-set [] bs r complete is = absurd (cc complete)
unserved-set (c ∷ cs) [] r complete is = absurd (cc is)
unserved-set (c ∷ cs) (b ∷ bs) zero complete is =
    let b_is : b ≡ false = same_Some b false is in
    let before : one_if (is_unserved c b) ≡ 1 = (λ i. one_if (not (complete i) && not (b_is i))) in
    let behind : one_if (is_unserved c true) ≡ 0 = (λ i. one_if (not (complete i) && false)) in
    omega (arith, before, behind)
unserved-set (c ∷ cs) (b ∷ bs) (suc r) complete is = let rest : unserved cs (slice_set bs r true) + 1 ≡ unserved cs bs = unserved-set cs bs r complete is in omega (arith, rest)
