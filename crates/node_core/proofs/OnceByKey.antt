-- Lists in which a key stands at most once: what is found under it is what stands there.
use Rattle.std.proofs.Common.{◌≡◌, ◌⊎◌, inl, inr, ℕ, zero, suc, ◌+◌, ◌≤◌, Bool, true, false, cond, List, [], ◌∷◌, ◌++◌, filter, refl, sym, ap, subst, ◌∙◌, arith}
use Rattle.std.specs.Prelude.{Some, None, ◌==◌, Contains, count_by, slice_index_or}
use Rattle.std.proofs.lemmas.Bool.{eqb-true, eq-eqb}
use Rattle.std.proofs.lemmas.List.Elements.{Contains-append_right}
use Rattle.std.proofs.lemmas.List.Sums.{sum_by-cons, sum_by_push, get_or-le-sum_by}
use Rattle.std.proofs.lemmas.Option.{same_Some}
use Rattle.cluster_record.specs.Places.{find_key, change_key}

-- what is in a list is its first, or among the others
pub Contains-cases : {X : Type 0} (y : X) (ys : List X) (x : X) → Contains (y ∷ ys) x → (y ≡ x) ⊎ Contains ys x
Contains-cases y ys x (zero, within, is) = inl is
Contains-cases y ys x (suc i, within, is) = inr (i, omega (arith, within), is)

module _ {X : Type 0} (key : X → ℕ) where
  -- how many have this key
  abbrev pub counted : ℕ → List X → ℕ
  counted k xs = count_by (λ x. key x == k) xs

  pub counted-cons : (k : ℕ) (x : X) (xs : List X) → counted k (x ∷ xs) ≡ cond (key x == k) 1 0 + counted k xs
  counted-cons k x xs = sum_by-cons (λ x. cond (key x == k) 1 0) x xs

  -- what is found under a key is in the list, and has the key
  pub found_in : (k : ℕ) (xs : List X) (x : X) → find_key key k xs ≡ Some x → Contains xs x × (key x ≡ k)
  found_in k [] x e = absurd (cc e)
  found_in k (y ∷ ys) x e =
      elim (key y == k) as (λ b. (key y == k) ≡ b → cond b (Some y) (find_key key k ys) ≡ Some x → Contains (y ∷ ys) x × (key x ≡ k)) [
        | true ↦ λ t here. let s = same_Some y x here in ((0, omega arith, s), ap key (sym s) ∙ eqb-true (key y) k t)
        | false ↦ λ t there. let (among, is) = found_in k ys x there in (Contains-append_right (y ∷ []) ys x among, is)
      ] refl e

  -- where none is found none has the key
  pub counted-none : (k : ℕ) (xs : List X) → find_key key k xs ≡ None → counted k xs ≡ 0
  counted-none k [] e = refl
  counted-none k (y ∷ ys) e =
      counted-cons k y ys
      ∙ elim (key y == k) as (λ b. cond b (Some y) (find_key key k ys) ≡ None → cond b 1 0 + counted k ys ≡ 0) [
        | true ↦ λ here. absurd (cc here)
        | false ↦ λ there. let none = counted-none k ys there in omega (arith, none)
      ] e

  -- what is in the list is counted
  counted-some : (xs : List X) (x : X) → Contains xs x → 1 ≤ counted (key x) xs
  counted-some xs x (i, within, is) =
      let one : cond (key (slice_index_or xs i x) == key x) 1 0 ≤ counted (key x) xs = get_or-le-sum_by (λ y. cond (key y == key x) 1 0) xs i x within in
      let own : (key x == key x) ≡ true = eq-eqb (key x) (key x) refl in
      subst (λ n. n ≤ counted (key x) xs) (ap (λ y. cond (key y == key x) 1 0) is ∙ ap (λ b. cond b 1 0) own) one

  -- what is in the list is found under its key, where that stands once
  pub found_once : (xs : List X) (x : X) → Contains xs x → counted (key x) xs ≤ 1 → find_key key (key x) xs ≡ Some x
  found_once [] x (i, within, is) few = absurd (omega (arith, within))
  found_once (y ∷ ys) x among few =
      elim (key y == key x) as (λ b. (key y == key x) ≡ b → cond b 1 0 + counted (key x) ys ≤ 1 → cond b (Some y) (find_key key (key x) ys) ≡ Some x) [
        | true ↦ λ t few. elim (Contains-cases y ys x among) [
          | inl here ↦ ap Some here
          | inr there ↦ let one = counted-some ys x there in absurd (omega (arith, one, few))
        ]
        | false ↦ λ t few. elim (Contains-cases y ys x among) [
          | inl here ↦ absurd (let e : false ≡ true = sym t ∙ eq-eqb (key y) (key x) (ap key here) in cc)
          | inr there ↦ found_once ys x there (omega (arith, few))
        ]
      ] refl (subst (λ n. n ≤ 1) (counted-cons (key x) y ys) few)

  -- what is found is counted
  pub counted-found : (k : ℕ) (xs : List X) (x : X) → find_key key k xs ≡ Some x → 1 ≤ counted k xs
  counted-found k [] x is = absurd cc
  counted-found k (y ∷ ys) x is =
      subst (λ n. 1 ≤ n) (sym (counted-cons k y ys))
      (elim (key y == k) as (λ b. cond b (Some y) (find_key key k ys) ≡ Some x → 1 ≤ cond b 1 0 + counted k ys) [
        | true ↦ λ here. omega arith
        | false ↦ λ there. let some = counted-found k ys x there in omega (arith, some)
      ] is)

  -- behind the first, a key stands at most once too
  pub counted-behind : (k : ℕ) (x : X) (xs : List X) → counted k (x ∷ xs) ≤ 1 → counted k xs ≤ 1
  counted-behind k x xs once = let is = counted-cons k x xs in omega (arith, is, once)

  -- and what is found behind the first has another key
  pub first-other : (k : ℕ) (x : X) (xs : List X) (y : X) → counted k (x ∷ xs) ≤ 1 → find_key key k xs ≡ Some y → (key x == k) ≡ false
  first-other k x xs y once there =
      let some = counted-found k xs y there in
      elim (key x == k) as (λ b. cond b 1 0 + counted k xs ≤ 1 → b ≡ false) [ true ↦ λ once. absurd (omega (arith, some, once)) | false ↦ λ once. refl ] (subst (λ n. n ≤ 1) (counted-cons k x xs) once)

  -- a change that keeps the keys changes no count
  pub counted-change_key : (k j : ℕ) (f : X → X) → ((x : X) → key (f x) ≡ key x) → (xs : List X) → counted j (change_key key k f xs) ≡ counted j xs
  counted-change_key k j f same [] = refl
  counted-change_key k j f same (x ∷ xs) = elim (key x == k) as (λ b. counted j (cond b (f x ∷ xs) (x ∷ change_key key k f xs)) ≡ counted j (x ∷ xs)) [
    | true ↦ counted-cons j (f x) xs ∙ ap (λ n. cond (n == j) 1 0 + counted j xs) (same x) ∙ sym (counted-cons j x xs)
    | false ↦ counted-cons j x (change_key key k f xs) ∙ ap (λ n. cond (key x == j) 1 0 + n) (counted-change_key k j f same xs) ∙ sym (counted-cons j x xs)
  ]

  -- one more, of a key that was not there
  pub counted-push : (xs : List X) (y : X) → find_key key (key y) xs ≡ None → ((k : ℕ) → counted k xs ≤ 1) → (k : ℕ) → counted k (xs ++ y ∷ []) ≤ 1
  counted-push xs y free few k =
      subst (λ n. n ≤ 1) (sym (sum_by_push (λ x. cond (key x == k) 1 0) xs y))
      (elim (key y == k) as (λ b. (key y == k) ≡ b → counted k xs + cond b 1 0 ≤ 1) [
        | true ↦ λ t. let none : counted k xs ≡ 0 = subst (λ n. counted n xs ≡ 0) (eqb-true (key y) k t) (counted-none (key y) xs free) in omega (arith, none)
        | false ↦ λ t. let some = few k in omega (arith, some)
      ] refl)

  -- some are left out
  pub counted-filter : (p : X → Bool) (k : ℕ) (xs : List X) → counted k (filter p xs) ≤ counted k xs
  counted-filter p k [] = omega arith
  counted-filter p k (x ∷ xs) =
      let fewer = counted-filter p k xs in
      subst (λ n. counted k (cond (p x) (x ∷ filter p xs) (filter p xs)) ≤ n) (sym (counted-cons k x xs))
      (elim (p x) as (λ b. counted k (cond b (x ∷ filter p xs) (filter p xs)) ≤ cond (key x == k) 1 0 + counted k xs) [
        | true ↦ let more = counted-cons k x (filter p xs) in omega (arith, more, fewer)
        | false ↦ omega (arith, fewer)
      ])
