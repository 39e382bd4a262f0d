-- Lists looked up and changed by a key or by a place.
use Rattle.std.proofs.Common.{◌≡◌, ℕ, zero, suc, ◌+◌, ◌<◌, Bool, true, false, List, [], ◌∷◌, ◌++◌, length, refl, sym, ap, subst, ◌∙◌, cond, arith}
use Rattle.std.specs.Prelude.{Option, Some, None, ◌==◌, slice_get, slice_set, slice_index_or}
use Rattle.std.proofs.lemmas.Bool.{eqb-true, eq-eqb}
use Rattle.std.proofs.lemmas.Option.{get_or_from_slice_get}
use Rattle.cluster_record.specs.Places.{find_key, change_key, place_from, place_key}

bools_agree : (b c : Bool) → (b ≡ true → c ≡ true) → (c ≡ true → b ≡ true) → b ≡ c
bools_agree true c f g = sym (f refl)
bools_agree false true f g = g refl
bools_agree false false f g = refl

pub tests_agree : (a b c d : ℕ) → (a ≡ b → c ≡ d) → (c ≡ d → a ≡ b) → (a == b) ≡ (c == d)
tests_agree a b c d f g = bools_agree (a == b) (c == d) (λ e. eq-eqb c d (f (eqb-true a b e))) (λ e. eq-eqb a b (g (eqb-true c d e)))

pub tests_differ : (a b : ℕ) → (a ≡ b → ⊥) → (a == b) ≡ false
tests_differ a b f = bools_agree (a == b) false (λ e. absurd (f (eqb-true a b e))) (λ e. absurd cc)

-- the element x of key k stands at place j
pub record Found {X : Type 0} (key : X → ℕ) (k : ℕ) (xs : List X) (j : ℕ) (x : X) : Type 0 where
  pub at : slice_get xs j ≡ Some x
  pub found : find_key key k xs ≡ Some x
  pub is : key x ≡ k
  pub changes : (f : X → X) → change_key key k f xs ≡ slice_set xs j (f x)

module _ {X : Type 0} (key : X → ℕ) (k : ℕ) where
  abbrev FoundAt : ℕ → List X → ℕ → Type 0
  FoundAt n xs i = (j : ℕ) × (x : X) × (n + j ≡ i) × Found key k xs j x

  shifted : (n : ℕ) (xs : List X) (i : ℕ) (y : X) → (key y == k) ≡ false → FoundAt (n + 1) xs i → FoundAt n (y ∷ xs) i
  shifted n xs i y e (j, x, s, f) = (
    suc j,
    x,
    let t : n + suc j ≡ i = omega (arith, s) in t,
    record {
      at = f.at;
      found = rw e f.found;
      is = f.is;
      changes = λ g. rw e (ap (λ zs. y ∷ zs) (f.changes g));
    },
  )

  found_case : (n : ℕ) (y : X) (xs : List X) (i : ℕ) → (place_from key k (n + 1) xs ≡ Some i → FoundAt (n + 1) xs i) → (b : Bool) → (key y == k) ≡ b → cond b (Some n) (place_from key k (n + 1) xs) ≡ Some i → FoundAt n (y ∷ xs) i
  found_case n y xs i more true h e = (zero, y, let s : n + 0 ≡ i = let t : n ≡ i = cc in omega (arith, t) in s, record { at = refl; found = rw h refl; is = eqb-true (key y) k h; changes = λ f. rw h refl })
  found_case n y xs i more false h e = shifted n xs i y h (more e)

  found_from : (n : ℕ) (xs : List X) (i : ℕ) → place_from key k n xs ≡ Some i → FoundAt n xs i
  found_from n [] i e = absurd cc
  found_from n (y ∷ xs) i e = found_case n y xs i (found_from (n + 1) xs i) (key y == k) refl e

  pub found_key : (xs : List X) (i : ℕ) → place_key key k xs ≡ Some i → (x : X) × Found key k xs i x
  found_key xs i e =
      let f = found_from 0 xs i e in
      let s : f.0 ≡ i = omega (arith, f.2) in
      (f.1, subst (λ j. Found key k xs j f.1) s f.3)

  none_case : (n : ℕ) (y : X) (xs : List X) → (place_from key k (n + 1) xs ≡ None → find_key key k xs ≡ None) → (b : Bool) → cond b (Some n) (place_from key k (n + 1) xs) ≡ None → cond b (Some y) (find_key key k xs) ≡ None
  none_case n y xs more true e = absurd cc
  none_case n y xs more false e = more e

  pub not_found : (n : ℕ) (xs : List X) → place_from key k n xs ≡ None → find_key key k xs ≡ None
  not_found n [] e = refl
  not_found n (y ∷ xs) e = none_case n y xs (not_found (n + 1) xs) (key y == k) e

  same_case : (f : X → X) (y : X) (xs : List X) → (find_key key k xs ≡ None → change_key key k f xs ≡ xs) → (b : Bool) → cond b (Some y) (find_key key k xs) ≡ None → cond b (f y ∷ xs) (y ∷ change_key key k f xs) ≡ y ∷ xs
  same_case f y xs more true e = absurd cc
  same_case f y xs more false e = ap (λ zs. y ∷ zs) (more e)

  pub not_changed : (f : X → X) (xs : List X) → find_key key k xs ≡ None → change_key key k f xs ≡ xs
  not_changed f [] e = refl
  not_changed f (y ∷ xs) e = same_case f y xs (not_changed f xs) (key y == k) e

  same_tests : (a j : ℕ) → (a == k) ≡ true → (a == j) ≡ (j == k)
  same_tests a j h = let s : a ≡ k = eqb-true a k h in tests_agree a j j k (λ e. sym e ∙ s) (λ e. s ∙ sym e)

  absorbed : (b : Bool) (a c z : Option X) → cond b a z ≡ cond b a (cond b c z)
  absorbed true a c z = refl
  absorbed false a c z = refl

  both : (y : X) (b c : Bool) (a z : Option X) → (b ≡ true → c ≡ false) → cond c (Some y) (cond b a z) ≡ cond b a (cond c (Some y) z)
  both y true true a z h = absurd (let g : true ≡ false = h refl in cc)
  both y true false a z h = refl
  both y false c a z h = refl

  change_case : (f : X → X) → ((x : X) → key (f x) ≡ key x) → (y : X) (xs : List X) (x : X) (j : ℕ) → (find_key key k xs ≡ Some x → find_key key j (change_key key k f xs) ≡ cond (j == k) (Some (f x)) (find_key key j xs)) →
      (b : Bool) → (key y == k) ≡ b → cond b (Some y) (find_key key k xs) ≡ Some x → find_key key j (cond b (f y ∷ xs) (y ∷ change_key key k f xs)) ≡ cond (j == k) (Some (f x)) (find_key key j (y ∷ xs))
  change_case f same y xs x j more true h e =
      let s : y ≡ x = cc in
      let t : (key (f y) == j) ≡ (j == k) = ap (λ a. a == j) (same y) ∙ same_tests (key y) j h in
      let u : (key y == j) ≡ (j == k) = same_tests (key y) j h in
      ap (λ b. cond b (Some (f y)) (find_key key j xs)) t ∙ ap (λ z. cond (j == k) (Some (f z)) (find_key key j xs)) s ∙ absorbed (j == k) (Some (f x)) (Some y) (find_key key j xs) ∙ ap (λ b. cond (j == k) (Some (f x)) (cond b (Some y) (find_key key j xs))) (sym u)
  change_case f same y xs x j more false h e =
      ap (λ o. cond (key y == j) (Some y) o) (more e)
      ∙ both y (j == k) (key y == j) (Some (f x)) (find_key key j xs) (λ t. let s : j ≡ k = eqb-true j k t in subst (λ (j : ℕ). (key y == j) ≡ false) (sym s) h)

  -- after a change at k, the element of each key
  pub find_changed : (f : X → X) → ((x : X) → key (f x) ≡ key x) → (xs : List X) (x : X) (j : ℕ) → find_key key k xs ≡ Some x → find_key key j (change_key key k f xs) ≡ cond (j == k) (Some (f x)) (find_key key j xs)
  find_changed f same [] x j e = absurd cc
  find_changed f same (y ∷ xs) x j e = change_case f same y xs x j (find_changed f same xs x j) (key y == k) refl e

  -- after one more of key k, the element of each key, where none had it
  pub find_pushed : (xs : List X) (y : X) (j : ℕ) → key y ≡ k → find_key key k xs ≡ None → find_key key j (xs ++ y ∷ []) ≡ cond (j == k) (Some y) (find_key key j xs)
  find_pushed [] y j is e = ap (λ b. cond b (Some y) None) (same_tests (key y) j (eq-eqb (key y) k is))
  find_pushed (x ∷ xs) y j is e = by_test (key x == k) refl e (find_pushed xs y j is) where
    by_test : (b : Bool) → (key x == k) ≡ b → cond b (Some x) (find_key key k xs) ≡ None → (find_key key k xs ≡ None → find_key key j (xs ++ y ∷ []) ≡ cond (j == k) (Some y) (find_key key j xs)) →
        cond (key x == j) (Some x) (find_key key j (xs ++ y ∷ [])) ≡ cond (j == k) (Some y) (cond (key x == j) (Some x) (find_key key j xs))
    by_test true h e more = absurd cc
    by_test false h e more =
        ap (λ o. cond (key x == j) (Some x) o) (more e)
        ∙ both x (j == k) (key x == j) (Some y) (find_key key j xs) (λ t. let s : j ≡ k = eqb-true j k t in subst (λ (j : ℕ). (key x == j) ≡ false) (sym s) h)

module _ {X : Type 0} (key : X → ℕ) (k : ℕ) (f : X → X) (xs : List X) (o : Option ℕ) (from : o ≡ place_key key k xs) where
  -- the code's change at a place is the change at the key
  pub changes_at : (i : ℕ) (d y : X) → o ≡ Some i → y ≡ f (slice_index_or xs i d) → slice_set xs i y ≡ change_key key k f xs
  changes_at i d y e new =
      let g = found_key key k xs i (sym from ∙ e) in
      ap (slice_set xs i) (new ∙ ap f (get_or_from_slice_get xs i g.0 d g.1.at)) ∙ sym (g.1.changes f)

  pub changes_none : o ≡ None → xs ≡ change_key key k f xs
  changes_none e = sym (not_changed key k f xs (not_found key k 0 xs (sym from ∙ e)))

-- a list changed at a place, at each place
pub get_set : {X : Type 0} (xs : List X) (r : ℕ) (y x : X) (q : ℕ) → slice_get xs r ≡ Some x → slice_get (slice_set xs r y) q ≡ cond (q == r) (Some y) (slice_get xs q)
get_set [] r y x q e = absurd cc
get_set (z ∷ xs) zero y x zero e = refl
get_set (z ∷ xs) zero y x (suc q) e = let t : (suc q == 0) ≡ false = tests_differ (suc q) 0 (λ e. cc) in rw t refl
get_set (z ∷ xs) (suc r) y x zero e = let t : (0 == suc r) ≡ false = tests_differ 0 (suc r) (λ e. cc) in rw t refl
get_set (z ∷ xs) (suc r) y x (suc q) e = let t : (suc q == suc r) ≡ (q == r) = tests_agree (suc q) (suc r) q r (λ e. cc) (λ e. cc) in rw t (get_set xs r y x q e)

-- a place within a list has an element
pub there_is : {X : Type 0} (xs : List X) (i : ℕ) → i < length xs → (x : X) × (slice_get xs i ≡ Some x)
there_is [] i h = absurd (omega arith)
there_is (x ∷ xs) zero h = (x, refl)
there_is (x ∷ xs) (suc i) h = there_is xs i (omega (arith, h))
