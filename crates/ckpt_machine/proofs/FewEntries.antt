-- How many entries there are: no more than before, where each that is there was there.
use Rattle.std.proofs.Common.{◌≡◌, ℕ, suc, ◌+◌, ◌≤◌, ◌<◌, ◌==◌, Bool, true, false, cond, List, [], ◌∷◌, ◌++◌, length, refl, sym, ap, subst, ◌∙◌, arith}
use Rattle.std.specs.Prelude.{Option, Some, None, IsSome, is_some, filter}
use Rattle.std.proofs.lemmas.Bool.{eq-eqb, eqb-true, ne_eqb}
use Rattle.std.proofs.lemmas.List.Sums.{length-filter, count_by-le-length}
use Rattle.cluster_record.specs.declared.entries.Entry.{Entry}
use Rattle.cluster_record.specs.Identities.{AllAbove, IdentitiesRise}
use Rattle.cluster_record.specs.Places.{change_key}
use Rattle.cluster_record.specs.RecordState.{entry_of, identity_of}

-- what is found among entries that are all above a number is above it
above_found : (n k : ℕ) (es : List Entry) → AllAbove n es → IsSome (entry_of k es) → n < k
above_found n k [] above some = absurd (cc some)
above_found n k (e ∷ es) above some = elim (e.identity == k) as (λ b. (e.identity == k) ≡ b → is_some (cond b (Some e) (entry_of k es)) ≡ true → n < k) [
  | true ↦ λ here found. subst (λ j. n < j) (eqb-true e.identity k here) above.0
  | false ↦ λ other found. above_found n k es above.1 found
] refl some

-- what is found is the first, or behind it
behind_first : (k : ℕ) (e : Entry) (es : List Entry) → (e.identity ≡ k → ⊥) → IsSome (entry_of k (e ∷ es)) → IsSome (entry_of k es)
behind_first k e es other some = ap (λ b. is_some (cond b (Some e) (entry_of k es))) (sym (ne_eqb e.identity k other)) ∙ some

found_behind : (k : ℕ) (e : Entry) (es : List Entry) → (e.identity ≡ k → ⊥) → IsSome (entry_of k es) → IsSome (entry_of k (e ∷ es))
found_behind k e es other some = ap (λ b. is_some (cond b (Some e) (entry_of k es))) (ne_eqb e.identity k other) ∙ some

first_found : (e : Entry) (es : List Entry) → IsSome (entry_of e.identity (e ∷ es))
first_found e es = ap (λ b. is_some (cond b (Some e) (entry_of e.identity es))) (eq-eqb e.identity e.identity refl)

-- no identity of these is below the first
first_least : (k : ℕ) (e : Entry) (es : List Entry) → AllAbove e.identity es → IsSome (entry_of k (e ∷ es)) → e.identity ≤ k
first_least k e es above some = elim (e.identity == k) as (λ b. (e.identity == k) ≡ b → is_some (cond b (Some e) (entry_of k es)) ≡ true → e.identity ≤ k) [
  | true ↦ λ here found. (let same : e.identity ≡ k = eqb-true e.identity k here in omega (arith, same))
  | false ↦ λ other found. (let more : e.identity < k = above_found e.identity k es above found in omega (arith, more))
] refl some

-- where each that is found was found, there are no more
pub fewer_entries : (xs ys : List Entry) → IdentitiesRise xs → IdentitiesRise ys → ((k : ℕ) → IsSome (entry_of k ys) → IsSome (entry_of k xs)) → length ys ≤ length xs
fewer_entries xs [] rise rises was = omega arith
fewer_entries [] (y ∷ ys) rise rises was = absurd (let found : false ≡ true = was y.identity (first_found y ys) in cc found)
fewer_entries (x ∷ xs) (y ∷ ys) rise rises was =
    let least : x.identity ≤ y.identity = first_least y.identity x xs rise.0 (was y.identity (first_found y ys)) in
    let rest : length ys ≤ length xs = fewer_entries xs ys rise.1 rises.1 (λ k found.
    let above : y.identity < k = above_found y.identity k ys rises.0 found in
    behind_first k x xs (λ same. omega (arith, least, above, same)) (was k (found_behind k y ys (λ same. omega (arith, above, same)) found))) in
    omega (arith, rest)

-- as what is said of each
pub fewer_from : (xs ys : List Entry) → IdentitiesRise xs → IdentitiesRise ys → ((k : ℕ) (f : Entry) → entry_of k ys ≡ Some f → (e : Entry) × (entry_of k xs ≡ Some e)) → length ys ≤ length xs
fewer_from xs ys rise rises was = fewer_entries xs ys rise rises (λ k some. by_found k (entry_of k ys) refl some)
  where
    by_found : (k : ℕ) (o : Option Entry) → entry_of k ys ≡ o → IsSome o → IsSome (entry_of k xs)
    by_found k None none some = absurd (cc some)
    by_found k (Some f) found some = ap is_some (was k f found).1

-- so it is of those that a test leaves
pub few-filter : (p : Entry → Bool) (es : List Entry) (n : ℕ) → length es ≤ n → length (filter p es) ≤ n
few-filter p es n few =
    let left : length (filter p es) ≤ length es = subst (λ l. l ≤ length es) (sym (length-filter p es)) (count_by-le-length p es) in
    omega (arith, few, left)

-- and where one is changed
pub few-change_key : (f : Entry → Entry) (k : ℕ) (es : List Entry) (n : ℕ) → length es ≤ n → length (change_key identity_of k f es) ≤ n
few-change_key f k es n few = subst (λ l. l ≤ n) (sym (same_length es)) few
  where
    same_length : (es : List Entry) → length (change_key identity_of k f es) ≡ length es
    same_length [] = refl
    same_length (e ∷ es) = elim (e.identity == k) as (λ b. length (cond b (f e ∷ es) (e ∷ change_key identity_of k f es)) ≡ length (e ∷ es)) [ true ↦ refl | false ↦ ap suc (same_length es) ]

-- one more comes where there was room
pub few-push : (es : List Entry) (e : Entry) (n : ℕ) → length es < n → length (es ++ e ∷ []) ≤ n
few-push [] e n room = omega (arith, room)
few-push (x ∷ xs) e n room = let rest : length (xs ++ e ∷ []) ≤ length xs + 1 = few-push xs e (length xs + 1) (omega arith) in omega (arith, rest, room)
