-- Lists of which some are left out, or to which one is added: what is found in them, and what is among them.
use Rattle.std.proofs.Common.{◌≡◌, ℕ, zero, suc, inl, inr, arith, List, [], ◌∷◌, ◌++◌, drop, filter, map, Option, Some, None, Bool, true, false, cond, refl, sym, ap, subst, ◌∙◌}
use Rattle.std.specs.Prelude.{Contains, find}
use Rattle.std.proofs.lemmas.List.Elements.{Contains-append_right}
use Rattle.std.proofs.lemmas.Option.{same_Some}
use Rattle.node_core.proofs.OnceByKey.{Contains-cases}

-- ---- what is among them

-- the first is among them
pub among_first : {X : Type 0} (x : X) (xs : List X) → Contains (x ∷ xs) x
among_first x xs = (zero, omega arith, refl)

-- so are the others
pub among_others : {X : Type 0} (y : X) (ys : List X) (x : X) → Contains ys x → Contains (y ∷ ys) x
among_others y ys x there = Contains-append_right (y ∷ []) ys x there

-- none is among none
pub among_none : {X : Type 0} (x : X) → Contains [] x → ⊥
among_none x (i, within, is) = omega (arith, within)

pub among_filtered : {X : Type 0} (q : X → Bool) (xs : List X) (x : X) → Contains (filter q xs) x → Contains xs x
among_filtered q [] x among = among
among_filtered q (y ∷ ys) x among = elim (q y) as (λ b. Contains (cond b (y ∷ filter q ys) (filter q ys)) x → Contains (y ∷ ys) x) [
  | true ↦ λ among. elim (Contains-cases y (filter q ys) x among) [ inl here ↦ subst (Contains (y ∷ ys)) here (among_first y ys) | inr there ↦ among_others y ys x (among_filtered q ys x there) ]
  | false ↦ λ among. among_others y ys x (among_filtered q ys x among)
] among

-- what is left passes
pub passes_filtered : {X : Type 0} (q : X → Bool) (xs : List X) (x : X) → Contains (filter q xs) x → q x ≡ true
passes_filtered q [] x among = absurd (among_none x among)
passes_filtered q (y ∷ ys) x among = elim (q y) as (λ b. q y ≡ b → Contains (cond b (y ∷ filter q ys) (filter q ys)) x → q x ≡ true) [
  | true ↦ λ passes among. elim (Contains-cases y (filter q ys) x among) [ inl here ↦ ap q (sym here) ∙ passes | inr there ↦ passes_filtered q ys x there ]
  | false ↦ λ fails among. passes_filtered q ys x among
] refl among

pub among_dropped : {X : Type 0} (n : ℕ) (xs : List X) (x : X) → Contains (drop n xs) x → Contains xs x
among_dropped zero xs x among = among
among_dropped (suc n) [] x among = among
among_dropped (suc n) (y ∷ ys) x among = among_others y ys x (among_dropped n ys x among)

-- what is among images is the image of one
pub among_mapped : {X Y : Type 0} (f : X → Y) (xs : List X) (y : Y) → Contains (map f xs) y → (x : X) × Contains xs x × (f x ≡ y)
among_mapped f [] y among = absurd (among_none y among)
among_mapped f (x ∷ xs) y among = elim (Contains-cases (f x) (map f xs) y among) [
  | inl here ↦ (x, among_first x xs, here)
  | inr there ↦ (let (z, at, is) = among_mapped f xs y there in (z, among_others x xs z at, is))
]

pub among_images : {X Y : Type 0} (f : X → Y) (xs : List X) (x : X) → Contains xs x → Contains (map f xs) (f x)
among_images f [] x among = absurd (among_none x among)
among_images f (z ∷ zs) x among = elim (Contains-cases z zs x among) [
  | inl here ↦ subst (λ y. Contains (f z ∷ map f zs) (f y)) here (among_first (f z) (map f zs))
  | inr there ↦ among_others (f z) (map f zs) (f x) (among_images f zs x there)
]

-- ---- what is found in them

-- what is found is among them, and passes
pub found_among : {X : Type 0} (p : X → Bool) (xs : List X) (x : X) → find p xs ≡ Some x → Contains xs x × (p x ≡ true)
found_among p [] x found = absurd (cc found)
found_among p (y ∷ ys) x found = elim (p y) as (λ b. p y ≡ b → cond b (Some y) (find p ys) ≡ Some x → Contains (y ∷ ys) x × (p x ≡ true)) [
  | true ↦ λ passes here. (let same : y ≡ x = same_Some y x here in (subst (Contains (y ∷ ys)) same (among_first y ys), ap p (sym same) ∙ passes))
  | false ↦ λ fails there. (let (among, passes) = found_among p ys x there in (among_others y ys x among, passes))
] refl found

-- where none passes, none is found
pub none_found : {X : Type 0} (p : X → Bool) (xs : List X) → ((x : X) → Contains xs x → p x ≡ true → ⊥) → find p xs ≡ None
none_found {X = X} p xs fail = by_find (find p xs) refl
  where
    by_find : (o : Option X) → find p xs ≡ o → find p xs ≡ None
    by_find None none = none
    by_find (Some x) found = (let (among, passes) = found_among p xs x found in absurd (fail x among passes))

-- what was found is found among those that are left, where it is one of them
pub found_filtered : {X : Type 0} (p q : X → Bool) (xs : List X) (x : X) → find p xs ≡ Some x → q x ≡ true → find p (filter q xs) ≡ Some x
found_filtered p q [] x found left = found
found_filtered p q (y ∷ ys) x found left = elim (q y) as (λ b. q y ≡ b → find p (cond b (y ∷ filter q ys) (filter q ys)) ≡ Some x) [
  | true ↦ λ stays. elim (p y) as (λ b. cond b (Some y) (find p ys) ≡ Some x → cond b (Some y) (find p (filter q ys)) ≡ Some x) [
    | true ↦ λ here. here
    | false ↦ λ there. found_filtered p q ys x there left
  ] found
  | false ↦ λ goes. elim (p y) as (λ b. cond b (Some y) (find p ys) ≡ Some x → find p (filter q ys) ≡ Some x) [
    | true ↦ λ here. absurd (let it : true ≡ false = sym left ∙ ap q (sym (same_Some y x here)) ∙ goes in cc it)
    | false ↦ λ there. found_filtered p q ys x there left
  ] found
] refl

-- what was found is found with others behind
pub found_front : {X : Type 0} (p : X → Bool) (xs ys : List X) (x : X) → find p xs ≡ Some x → find p (xs ++ ys) ≡ Some x
found_front p [] ys x found = absurd (cc found)
found_front p (z ∷ zs) ys x found = elim (p z) as (λ b. cond b (Some z) (find p zs) ≡ Some x → cond b (Some z) (find p (zs ++ ys)) ≡ Some x) [
  | true ↦ λ here. here
  | false ↦ λ there. found_front p zs ys x there
] found

-- where none was found, the last is found that passes
pub found_last : {X : Type 0} (p : X → Bool) (xs : List X) (x : X) → find p xs ≡ None → p x ≡ true → find p (xs ++ x ∷ []) ≡ Some x
found_last p [] x none passes = ap (λ b. cond b (Some x) None) passes
found_last p (z ∷ zs) x none passes = elim (p z) as (λ b. cond b (Some z) (find p zs) ≡ None → cond b (Some z) (find p (zs ++ x ∷ [])) ≡ Some x) [
  | true ↦ λ here. absurd (cc here)
  | false ↦ λ there. found_last p zs x there passes
] none
