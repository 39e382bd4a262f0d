-- Identities stay in order where an entry is changed, taken away or added; and what is found under an identity.
use Rattle.std.proofs.Common.{◌≡◌, ◌⊎◌, inl, inr, ℕ, ◌+◌, ◌<◌, ◌≤◌, List, [], ◌∷◌, ◌++◌, map, filter, Option, Some, None, Bool, true, false, cond, ◌==◌, refl, sym, ap, subst, ◌∙◌, arith}
use Rattle.std.specs.Prelude.{find}
use Rattle.std.proofs.lemmas.Bool.{eqb-true, eq-eqb, ne_eqb}
use Rattle.std.proofs.lemmas.Option.{same_Some}
use Rattle.cluster_record.specs.declared.entries.Entry.{Entry}
use Rattle.cluster_record.specs.Identities.{AllAbove, IdentitiesRise, AllUpTo}
use Rattle.cluster_record.specs.Places.{change_key}
use Rattle.cluster_record.specs.RecordState.{identity_of, entry_of}
use Rattle.cluster_record.proofs.Places.{tests_differ}

-- ---- what is found

-- an entry found among those above n has an identity above n
pub AllAbove-entry_of : (n k : ℕ) (entries : List Entry) (e : Entry) → AllAbove n entries → entry_of k entries ≡ Some e → n < k
AllAbove-entry_of n k [] e above found = absurd (cc found)
AllAbove-entry_of n k (x ∷ xs) e above found =
    elim (x.identity == k) as (λ b. (x.identity == k) ≡ b → cond b (Some x) (entry_of k xs) ≡ Some e → n < k) [
      | true ↦ λ is here. subst (λ j. n < j) (eqb-true x.identity k is) above.0
      | false ↦ λ is there. AllAbove-entry_of n k xs e above.1 there
    ] refl found

-- beyond the identity last given no entry is found
pub entry_of-beyond : (n k : ℕ) (entries : List Entry) → AllUpTo n entries → n < k → entry_of k entries ≡ None
entry_of-beyond n k [] up_to beyond = refl
entry_of-beyond n k (x ∷ xs) up_to beyond =
    let le : x.identity ≤ n = up_to.0 in
    ap (λ b. cond b (Some x) (entry_of k xs)) (ne_eqb x.identity k (λ same. omega (arith, same, le, beyond))) ∙ entry_of-beyond n k xs up_to.1 beyond

-- the entry that passes a test is the one of its identity
pub entry_of-find : (p : Entry → Bool) (entries : List Entry) (e : Entry) → IdentitiesRise entries → find p entries ≡ Some e → entry_of e.identity entries ≡ Some e
entry_of-find p [] e rises found = absurd (cc found)
entry_of-find p (x ∷ xs) e rises found =
    elim (p x) as (λ b. cond b (Some x) (find p xs) ≡ Some e → entry_of e.identity (x ∷ xs) ≡ Some e) [
      | true ↦ λ here. subst (λ y. entry_of y.identity (x ∷ xs) ≡ Some y) (same_Some x e here) (ap (λ b. cond b (Some x) (entry_of x.identity xs)) (eq-eqb x.identity x.identity refl))
      | false ↦ λ there.
          let found = entry_of-find p xs e rises.1 there in
          let beyond = AllAbove-entry_of x.identity e.identity xs e rises.0 found in
          ap (λ b. cond b (Some x) (entry_of e.identity xs)) (ne_eqb x.identity e.identity (λ same. omega (arith, same, beyond))) ∙ found
    ] found

-- ---- the order is kept

-- a change that keeps identities
abbrev pub KeepsIdentity : (Entry → Entry) → Type 0
KeepsIdentity f = (e : Entry) → (f e).identity ≡ e.identity

-- a change that keeps the identities leaves all above n
pub AllAbove-change_key : (f : Entry → Entry) → ((e : Entry) → (f e).identity ≡ e.identity) → (n k : ℕ) (entries : List Entry) → AllAbove n entries → AllAbove n (change_key identity_of k f entries)
AllAbove-change_key f same n k [] above = tt
AllAbove-change_key f same n k (x ∷ xs) above =
    elim (x.identity == k) as (λ b. AllAbove n (cond b (f x ∷ xs) (x ∷ change_key identity_of k f xs))) [
      | true ↦ (subst (λ j. n < j) (sym (same x)) above.0, above.1)
      | false ↦ (above.0, AllAbove-change_key f same n k xs above.1)
    ]

-- and all up to n
pub AllUpTo-change_key : (f : Entry → Entry) → ((e : Entry) → (f e).identity ≡ e.identity) → (n k : ℕ) (entries : List Entry) → AllUpTo n entries → AllUpTo n (change_key identity_of k f entries)
AllUpTo-change_key f same n k [] up_to = tt
AllUpTo-change_key f same n k (x ∷ xs) up_to =
    elim (x.identity == k) as (λ b. AllUpTo n (cond b (f x ∷ xs) (x ∷ change_key identity_of k f xs))) [
      | true ↦ (subst (λ j. j ≤ n) (sym (same x)) up_to.0, up_to.1)
      | false ↦ (up_to.0, AllUpTo-change_key f same n k xs up_to.1)
    ]

-- and the identities rising
pub IdentitiesRise-change_key : (f : Entry → Entry) → ((e : Entry) → (f e).identity ≡ e.identity) → (k : ℕ) (entries : List Entry) → IdentitiesRise entries → IdentitiesRise (change_key identity_of k f entries)
IdentitiesRise-change_key f same k [] rises = tt
IdentitiesRise-change_key f same k (x ∷ xs) rises =
    elim (x.identity == k) as (λ b. IdentitiesRise (cond b (f x ∷ xs) (x ∷ change_key identity_of k f xs))) [
      | true ↦ (subst (λ j. AllAbove j xs) (sym (same x)) rises.0, rises.1)
      | false ↦ (AllAbove-change_key f same x.identity k xs rises.0, IdentitiesRise-change_key f same k xs rises.1)
    ]

-- each changed leaves all above n
pub AllAbove-map : (f : Entry → Entry) → KeepsIdentity f → (n : ℕ) (entries : List Entry) → AllAbove n entries → AllAbove n (map f entries)
AllAbove-map f same n [] above = tt
AllAbove-map f same n (x ∷ xs) above = (subst (λ j. n < j) (sym (same x)) above.0, AllAbove-map f same n xs above.1)

-- and all up to n
pub AllUpTo-map : (f : Entry → Entry) → KeepsIdentity f → (n : ℕ) (entries : List Entry) → AllUpTo n entries → AllUpTo n (map f entries)
AllUpTo-map f same n [] up_to = tt
AllUpTo-map f same n (x ∷ xs) up_to = (subst (λ j. j ≤ n) (sym (same x)) up_to.0, AllUpTo-map f same n xs up_to.1)

-- and the identities rising
pub IdentitiesRise-map : (f : Entry → Entry) → KeepsIdentity f → (entries : List Entry) → IdentitiesRise entries → IdentitiesRise (map f entries)
IdentitiesRise-map f same [] rises = tt
IdentitiesRise-map f same (x ∷ xs) rises = (subst (λ j. AllAbove j (map f xs)) (sym (same x)) (AllAbove-map f same x.identity xs rises.0), IdentitiesRise-map f same xs rises.1)

-- some taken away leave all above n
pub AllAbove-filter : (p : Entry → Bool) (n : ℕ) (entries : List Entry) → AllAbove n entries → AllAbove n (filter p entries)
AllAbove-filter p n [] above = tt
AllAbove-filter p n (x ∷ xs) above = elim (p x) as (λ b. AllAbove n (cond b (x ∷ filter p xs) (filter p xs))) [ true ↦ (above.0, AllAbove-filter p n xs above.1) | false ↦ AllAbove-filter p n xs above.1 ]

-- and all up to n
pub AllUpTo-filter : (p : Entry → Bool) (n : ℕ) (entries : List Entry) → AllUpTo n entries → AllUpTo n (filter p entries)
AllUpTo-filter p n [] up_to = tt
AllUpTo-filter p n (x ∷ xs) up_to = elim (p x) as (λ b. AllUpTo n (cond b (x ∷ filter p xs) (filter p xs))) [ true ↦ (up_to.0, AllUpTo-filter p n xs up_to.1) | false ↦ AllUpTo-filter p n xs up_to.1 ]

-- and the identities rising
pub IdentitiesRise-filter : (p : Entry → Bool) (entries : List Entry) → IdentitiesRise entries → IdentitiesRise (filter p entries)
IdentitiesRise-filter p [] rises = tt
IdentitiesRise-filter p (x ∷ xs) rises =
    elim (p x) as (λ b. IdentitiesRise (cond b (x ∷ filter p xs) (filter p xs))) [ true ↦ (AllAbove-filter p x.identity xs rises.0, IdentitiesRise-filter p xs rises.1) | false ↦ IdentitiesRise-filter p xs rises.1 ]

-- one more above n leaves all above n
pub AllAbove-push : (n : ℕ) (entries : List Entry) (new : Entry) → AllAbove n entries → n < new.identity → AllAbove n (entries ++ new ∷ [])
AllAbove-push n [] new above beyond = (beyond, tt)
AllAbove-push n (x ∷ xs) new above beyond = (above.0, AllAbove-push n xs new above.1 beyond)

-- the next one leaves all up to the next
pub AllUpTo-push : (n : ℕ) (entries : List Entry) (new : Entry) → AllUpTo n entries → new.identity ≡ n + 1 → AllUpTo (n + 1) (entries ++ new ∷ [])
AllUpTo-push n [] new up_to next = (omega (arith, next), tt)
AllUpTo-push n (x ∷ xs) new up_to next = (let le : x.identity ≤ n = up_to.0 in omega (arith, le), AllUpTo-push n xs new up_to.1 next)

-- and the identities rising
pub IdentitiesRise-push : (n : ℕ) (entries : List Entry) (new : Entry) → IdentitiesRise entries → AllUpTo n entries → n < new.identity → IdentitiesRise (entries ++ new ∷ [])
IdentitiesRise-push n [] new rises up_to beyond = (tt, tt)
IdentitiesRise-push n (x ∷ xs) new rises up_to beyond =
    (AllAbove-push x.identity xs new rises.0 (let le : x.identity ≤ n = up_to.0 in omega (arith, le, beyond)), IdentitiesRise-push n xs new rises.1 up_to.1 beyond)

-- ---- of each entry a filter leaves it, or takes it away

-- where all identities are above n, none is n
pub none_at : (n j : ℕ) (xs : List Entry) → AllAbove n xs → n ≡ j → entry_of j xs ≡ None
none_at n j [] a e = refl
none_at n j (y ∷ xs) a e =
    let t : (y.identity == j) ≡ false = tests_differ y.identity j (λ s. let z : n < y.identity = a.0 in omega (arith, z, s, e)) in
    ap (λ b. cond b (Some y) (entry_of j xs)) t ∙ none_at n j xs a.1 e

-- the second is gone, or is the first
abbrev pub IsLeft : Option Entry → Option Entry → Type 0
IsLeft old new = (new ≡ None) ⊎ (new ≡ old)

left_case : (p : Entry → Bool) (j : ℕ) (y : Entry) (xs : List Entry) → AllAbove y.identity xs → IsLeft (entry_of j xs) (entry_of j (filter p xs)) → (b : Bool) → IsLeft (entry_of j (y ∷ xs)) (entry_of j (cond b (y ∷ filter p xs) (filter p xs)))
left_case p j y xs a more true = at (y.identity == j) more where
  at : (b : Bool) → IsLeft (entry_of j xs) (entry_of j (filter p xs)) → IsLeft (cond b (Some y) (entry_of j xs)) (cond b (Some y) (entry_of j (filter p xs)))
  at true more = inr refl
  at false more = more
left_case p j y xs a more false = at (y.identity == j) refl more where
  at : (b : Bool) → (y.identity == j) ≡ b → IsLeft (entry_of j xs) (entry_of j (filter p xs)) → IsLeft (cond b (Some y) (entry_of j xs)) (entry_of j (filter p xs))
  at true e more = inl (none_at y.identity j (filter p xs) (AllAbove-filter p y.identity xs a) (eqb-true y.identity j e))
  at false e more = more

pub filter_leaves : (p : Entry → Bool) (xs : List Entry) → IdentitiesRise xs → (j : ℕ) → IsLeft (entry_of j xs) (entry_of j (filter p xs))
filter_leaves p [] r j = inl refl
filter_leaves p (y ∷ xs) r j = left_case p j y xs r.0 (filter_leaves p xs r.1 j) (p y)
