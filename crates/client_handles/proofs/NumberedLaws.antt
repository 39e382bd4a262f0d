-- What is found by its number, and for what a place stands, among things that have numbers.
use Rattle.std.proofs.Common.{◌≡◌, ◌≢◌, ℕ, zero, suc, ◌<◌, ◌==◌, Bool, true, false, not, cond, List, [], ◌∷◌, ◌++◌, length, Option, Some, None, IsSome, slice_index, slice_set, replicate, refl, sym, ap, subst, ◌∙◌}
use Rattle.std.specs.List.{All}
use Rattle.std.specs.Option.{option_or}
use Rattle.std.proofs.lemmas.Bool.{eqb-true, eq-eqb, ne_eqb}
use Rattle.std.proofs.lemmas.List.{append-nil, get_or-set_same, get_or-set_other}
use Rattle.std.proofs.lemmas.List.Elements.{All-head, All-tail, filter-append}
use Rattle.std.proofs.lemmas.List.Folds.{find-append}
use Rattle.std.proofs.lemmas.Option.{none-some, same_Some}
use Rattle.ckpt_types.specs.Limits.{places_max}
use Rattle.client_handles.specs.Numbered.{numbered, without, stands_for}
use Rattle.ckpt_types.proofs.Lists.{slice_index-replicate}

found_or_none : {A : Type 0} (o : Option A) → option_or o None ≡ o
found_or_none None = refl
found_or_none (Some x) = refl

-- a place that was never set has the number 0
pub slice_index-new : (place : ℕ) → slice_index (replicate places_max 0) place ≡ 0
slice_index-new place = slice_index-replicate places_max place

module _ {A : Type 0} (number_of : A → ℕ) where
  -- ---- by number

  number_step : (number : ℕ) (x : A) (xs : List A) (h : A) → (numbered number_of number xs ≡ Some h → number_of h ≡ number) → (b : Bool) → (number_of x == number) ≡ b → cond b (Some x) (numbered number_of number xs) ≡ Some h → number_of h ≡ number
  number_step number x xs h rest true test e = sym (ap number_of (same_Some x h e)) ∙ eqb-true (number_of x) number test
  number_step number x xs h rest false test e = rest e

  -- what is found by a number has it
  pub numbered-is : (number : ℕ) (xs : List A) (h : A) → numbered number_of number xs ≡ Some h → number_of h ≡ number
  numbered-is number [] h e = absurd (none-some h e)
  numbered-is number (x ∷ xs) h e = number_step number x xs h (numbered-is number xs h) (number_of x == number) refl e

  none_step : (x : A) (rest left : List A) (o : Option A) → (o ≡ None → left ≡ rest) → (b : Bool) → cond b (Some x) o ≡ None → cond (not b) (x ∷ left) left ≡ x ∷ rest
  none_step x rest left o same true e = absurd (none-some x (sym e))
  none_step x rest left o same false e = ap (λ ys. x ∷ ys) (same e)

  -- where none has the number, all have others
  pub without-absent : (number : ℕ) (xs : List A) → numbered number_of number xs ≡ None → without number_of number xs ≡ xs
  without-absent number [] e = refl
  without-absent number (x ∷ xs) e = none_step x xs (without number_of number xs) (numbered number_of number xs) (without-absent number xs) (number_of x == number) e

  same_step : (number : ℕ) (x : A) (xs : List A) → numbered number_of number (without number_of number xs) ≡ None → (b : Bool) → (number_of x == number) ≡ b → numbered number_of number (cond (not b) (x ∷ without number_of number xs) (without number_of number xs)) ≡ None
  same_step number x xs rest true test = rest
  same_step number x xs rest false test = ap (λ b. cond b (Some x) (numbered number_of number (without number_of number xs))) test ∙ rest

  -- of the number left out none is found
  pub numbered-without_same : (number : ℕ) (xs : List A) → numbered number_of number (without number_of number xs) ≡ None
  numbered-without_same number [] = refl
  numbered-without_same number (x ∷ xs) = same_step number x xs (numbered-without_same number xs) (number_of x == number) refl

  other_step : (number other : ℕ) (x : A) (xs : List A) → other ≢ number → numbered number_of other (without number_of number xs) ≡ numbered number_of other xs → (b : Bool) → (number_of x == number) ≡ b → numbered number_of other (cond (not b) (x ∷ without number_of number xs) (without number_of number xs)) ≡ numbered number_of other (x ∷ xs)
  other_step number other x xs differs rest true test =
      let miss : (number_of x == other) ≡ false = ne_eqb (number_of x) other (λ e. differs (sym e ∙ eqb-true (number_of x) number test)) in
      rest ∙ sym (ap (λ b. cond b (Some x) (numbered number_of other xs)) miss)
  other_step number other x xs differs rest false test = ap (λ o. cond (number_of x == other) (Some x) o) rest

  -- of each other number the same is found
  pub numbered-without_other : (number other : ℕ) (xs : List A) → other ≢ number → numbered number_of other (without number_of number xs) ≡ numbered number_of other xs
  numbered-without_other number other [] differs = refl
  numbered-without_other number other (x ∷ xs) differs = other_step number other x xs differs (numbered-without_other number other xs differs) (number_of x == number) refl

  -- one more of a number that none had is found by it
  pub numbered-push_same : (number : ℕ) (xs : List A) (x : A) → number_of x ≡ number → numbered number_of number xs ≡ None → numbered number_of number (xs ++ x ∷ []) ≡ Some x
  numbered-push_same number xs x is none =
      find-append (λ h. number_of h == number) xs (x ∷ [])
      ∙ ap (λ o. option_or o (numbered number_of number (x ∷ []))) none
      ∙ ap (λ b. cond b (Some x) None) (eq-eqb (number_of x) number is)

  -- and those of other numbers by theirs
  pub numbered-push_other : (number : ℕ) (xs : List A) (x : A) → number ≢ number_of x → numbered number_of number (xs ++ x ∷ []) ≡ numbered number_of number xs
  numbered-push_other number xs x differs =
      find-append (λ h. number_of h == number) xs (x ∷ [])
      ∙ ap (λ b. option_or (numbered number_of number xs) (cond b (Some x) None)) (ne_eqb (number_of x) number (λ e. differs (sym e)))
      ∙ found_or_none (numbered number_of number xs)

  -- where the one more is left out again, all is as before
  pub without-push : (number : ℕ) (xs : List A) (x : A) → number_of x ≡ number → numbered number_of number xs ≡ None → without number_of number (xs ++ x ∷ []) ≡ xs
  without-push number xs x is none =
      filter-append (λ h. not (number_of h == number)) xs (x ∷ [])
      ∙ ap (λ b. without number_of number xs ++ cond (not b) (x ∷ []) []) (eq-eqb (number_of x) number is)
      ∙ append-nil (without number_of number xs)
      ∙ without-absent number xs none

  found_or : (o other : Option A) → IsSome o → IsSome (option_or o other)
  found_or None other found = cc
  found_or (Some x) other found = found

  -- whose number was found, its number is found with one more
  pub IsSome-push : (number : ℕ) (xs : List A) (x : A) → IsSome (numbered number_of number xs) → IsSome (numbered number_of number (xs ++ x ∷ []))
  IsSome-push number xs x found =
      subst (λ (o : Option A). IsSome o) (sym (find-append (λ h. number_of h == number) xs (x ∷ []))) (found_or (numbered number_of number xs) (numbered number_of number (x ∷ [])) found)

  found_holds : (P : A → Type 0) (number : ℕ) (x : A) (xs : List A) (h : A) → P x → (numbered number_of number xs ≡ Some h → P h) → (b : Bool) → cond b (Some x) (numbered number_of number xs) ≡ Some h → P h
  found_holds P number x xs h here behind true e = subst P (same_Some x h e) here
  found_holds P number x xs h here behind false e = behind e

  -- what holds of all holds of the one that is found
  pub numbered-All : (P : A → Type 0) (number : ℕ) (xs : List A) (h : A) → All P xs → numbered number_of number xs ≡ Some h → P h
  numbered-All P number [] h all e = absurd (none-some h e)
  numbered-All P number (x ∷ xs) h all e = found_holds P number x xs h (All-head P x xs all) (numbered-All P number xs h (All-tail P x xs all)) (number_of x == number) e

  -- ---- by place

  -- a place that is set stands for the one of that number
  pub stands_for-set_same : (places : List ℕ) (xs : List A) (place number : ℕ) → place < length places → stands_for number_of (slice_set places place number) xs place ≡ numbered number_of number xs
  stands_for-set_same places xs place number within = ap (λ n. numbered number_of n xs) (get_or-set_same places place number 0 within)

  -- and each other place for what it did
  pub stands_for-set_other : (places : List ℕ) (xs : List A) (place other number : ℕ) → other ≢ place → stands_for number_of (slice_set places place number) xs other ≡ stands_for number_of places xs other
  stands_for-set_other places xs place other number differs = ap (λ n. numbered number_of n xs) (get_or-set_other places place other number 0 differs)
