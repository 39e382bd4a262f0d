-- Things whose numbers rise: one more, one gone, one changed, and what is found among them.
use Rattle.std.proofs.Common.{◌≡◌, ℕ, zero, suc, ◌+◌, ◌<◌, ◌≤◌, ◌==◌, Bool, true, false, not, cond, List, [], ◌∷◌, ◌++◌, length, filter, map, Some, None, slice_get, slice_set, sym, ap, ◌∙◌, ◌⊎◌, inl, inr, arith, refl}
use Rattle.std.specs.List.{remove}
use Rattle.std.proofs.lemmas.Bool.{cases_lt, eqb-true, eq-eqb, ne_eqb}
use Rattle.std.proofs.lemmas.Option.{none-some, same_Some}
use Rattle.client_handles.specs.Numbered.{numbered, without, RiseWithin}
use Rattle.client_handles.proofs.NumberedLaws.{without-absent}

module _ {A : Type 0} (number_of : A → ℕ) where
  -- what rises above a number rises above a lower one
  pub RiseWithin-lower : (lower first last : ℕ) (xs : List A) → lower ≤ first → RiseWithin number_of first last xs → RiseWithin number_of lower last xs
  RiseWithin-lower lower first last [] low rise = tt
  RiseWithin-lower lower first last (x ∷ xs) low rise = let above = rise.0 in (omega (arith, rise.0), rise.1, rise.2)

  -- and what rises up to a number rises up to a higher one
  pub RiseWithin-higher : (first last higher : ℕ) (xs : List A) → last ≤ higher → RiseWithin number_of first last xs → RiseWithin number_of first higher xs
  RiseWithin-higher first last higher [] high rise = tt
  RiseWithin-higher first last higher (x ∷ xs) high rise = (rise.0, omega (arith, rise.1), RiseWithin-higher (number_of x) last higher xs high rise.2)

  -- one of a higher number may come last
  pub RiseWithin-push : (first last higher : ℕ) (xs : List A) (h : A) → first ≤ last → last < number_of h → number_of h ≤ higher → RiseWithin number_of first last xs → RiseWithin number_of first higher (xs ++ h ∷ [])
  RiseWithin-push first last higher [] h within above high rise = (omega arith, high, tt)
  RiseWithin-push first last higher (x ∷ xs) h within above high rise = (rise.0, omega (arith, rise.1), RiseWithin-push (number_of x) last higher xs h rise.1 above high rise.2)

  left_step : (keeps : A → Bool) (first last : ℕ) (x : A) (xs : List A) → RiseWithin number_of first last (x ∷ xs) → RiseWithin number_of (number_of x) last (filter keeps xs) → (b : Bool) → RiseWithin number_of first last (cond b (x ∷ filter keeps xs) (filter keeps xs))
  left_step keeps first last x xs rise rest true = (rise.0, rise.1, rest)
  left_step keeps first last x xs rise rest false = let above : first < number_of x = rise.0 in RiseWithin-lower first (number_of x) last (filter keeps xs) (omega arith) rest

  -- those that are left of them rise
  pub RiseWithin-filter : (keeps : A → Bool) (first last : ℕ) (xs : List A) → RiseWithin number_of first last xs → RiseWithin number_of first last (filter keeps xs)
  RiseWithin-filter keeps first last [] rise = tt
  RiseWithin-filter keeps first last (x ∷ xs) rise = left_step keeps first last x xs rise (RiseWithin-filter keeps (number_of x) last xs rise.2) (keeps x)

  -- and so do they where each is changed, and keeps its number
  pub RiseWithin-map : (change : A → A) → ((x : A) → number_of (change x) ≡ number_of x) → (first last : ℕ) (xs : List A) → RiseWithin number_of first last xs → RiseWithin number_of first last (map change xs)
  RiseWithin-map change same first last [] rise = tt
  RiseWithin-map change same first last (x ∷ xs) rise =
      let is : number_of (change x) ≡ number_of x = same x in
      (omega (arith, rise.0), omega (arith, rise.1), RiseWithin-lower (number_of (change x)) (number_of x) last (map change xs) (omega arith) (RiseWithin-map change same (number_of x) last xs rise.2))

  -- none is found of a number that is too low
  pub numbered-low : (number first last : ℕ) (xs : List A) → number ≤ first → RiseWithin number_of first last xs → numbered number_of number xs ≡ None
  numbered-low number first last [] low rise = refl
  numbered-low number first last (x ∷ xs) low rise =
      let above : first < number_of x = rise.0 in
      ap (λ b. cond b (Some x) (numbered number_of number xs)) (ne_eqb (number_of x) number (λ e. omega arith))
      ∙ numbered-low number (number_of x) last xs (omega arith) rise.2

  -- nor of one that is too high
  pub numbered-high : (number first last : ℕ) (xs : List A) → last < number → RiseWithin number_of first last xs → numbered number_of number xs ≡ None
  numbered-high number first last [] high rise = refl
  numbered-high number first last (x ∷ xs) high rise =
      let within : number_of x ≤ last = rise.1 in
      ap (λ b. cond b (Some x) (numbered number_of number xs)) (ne_eqb (number_of x) number (λ e. omega arith))
      ∙ numbered-high number (number_of x) last xs high rise.2

  found_case : (number first last : ℕ) (xs : List A) (h : A) → RiseWithin number_of first last xs → numbered number_of number xs ≡ Some h → (first < number) ⊎ (number ≤ first) → (last < number) ⊎ (number ≤ last) → (first < number) × (number ≤ last)
  found_case number first last xs h rise e (inr low) high = absurd (none-some h (sym (numbered-low number first last xs low rise) ∙ e))
  found_case number first last xs h rise e (inl above) (inl past) = absurd (none-some h (sym (numbered-high number first last xs past rise) ∙ e))
  found_case number first last xs h rise e (inl above) (inr within) = (above, within)

  -- so what is found has a number between
  pub RiseWithin-found : (number first last : ℕ) (xs : List A) (h : A) → RiseWithin number_of first last xs → numbered number_of number xs ≡ Some h → (first < number) × (number ≤ last)
  RiseWithin-found number first last xs h rise e = found_case number first last xs h rise e (cases_lt first number) (cases_lt last number)

  fewer_step : (number : ℕ) (x : A) (xs : List A) (h : A) → (number_of x ≡ number → numbered number_of number xs ≡ None) → (numbered number_of number xs ≡ Some h → length (without number_of number xs) + 1 ≡ length xs) → (b : Bool) → (number_of x == number) ≡ b → cond b (Some x) (numbered number_of number xs) ≡ Some h →
      length (cond (not b) (x ∷ without number_of number xs) (without number_of number xs)) + 1 ≡ length (x ∷ xs)
  fewer_step number x xs h none rest true test e =
      let same : length (without number_of number xs) ≡ length xs = ap length (without-absent number_of number xs (none (eqb-true (number_of x) number test))) in
      omega arith
  fewer_step number x xs h none rest false test e = let fewer : length (without number_of number xs) + 1 ≡ length xs = rest e in omega arith

  -- where one has the number, there are one fewer of other numbers
  pub length-without : (number first last : ℕ) (xs : List A) (h : A) → RiseWithin number_of first last xs → numbered number_of number xs ≡ Some h → length (without number_of number xs) + 1 ≡ length xs
  length-without number first last [] h rise e = absurd (none-some h e)
  length-without number first last (x ∷ xs) h rise e =
      fewer_step number x xs h
      (λ is. numbered-low number (number_of x) last xs (omega arith) rise.2)
      (length-without number (number_of x) last xs h rise.2)
      (number_of x == number) refl e

  gone_step : (keeps : A → Bool) (number first last : ℕ) (xs : List A) → number ≤ first → RiseWithin number_of first last xs → numbered number_of number (filter keeps xs) ≡ None
  gone_step keeps number first last xs low rise = numbered-low number first last (filter keeps xs) low (RiseWithin-filter keeps first last xs rise)

  left_found : (keeps : A → Bool) (number first last : ℕ) (x : A) (xs : List A) (h : A) → RiseWithin number_of first last (x ∷ xs) → (numbered number_of number xs ≡ Some h → numbered number_of number (filter keeps xs) ≡ cond (keeps h) (Some h) None) → (b : Bool) → (number_of x == number) ≡ b → cond b (Some x) (numbered number_of number xs) ≡ Some h →
      (k : Bool) → keeps x ≡ k → numbered number_of number (cond k (x ∷ filter keeps xs) (filter keeps xs)) ≡ cond (keeps h) (Some h) None
  left_found keeps number first last x xs h rise rest true test e true kept =
      ap (λ b. cond b (Some x) (numbered number_of number (filter keeps xs))) test ∙ e ∙ sym (ap (λ k. cond k (Some h) None) (sym (ap keeps (same_Some x h e)) ∙ kept))
  left_found keeps number first last x xs h rise rest true test e false gone =
      let is : number_of x ≡ number = eqb-true (number_of x) number test in
      gone_step keeps number (number_of x) last xs (omega arith) rise.2 ∙ sym (ap (λ k. cond k (Some h) None) (sym (ap keeps (same_Some x h e)) ∙ gone))
  left_found keeps number first last x xs h rise rest false test e true kept = ap (λ b. cond b (Some x) (numbered number_of number (filter keeps xs))) test ∙ rest e
  left_found keeps number first last x xs h rise rest false test e false gone = rest e

  -- what is found by its number is found among those that are left, where it is left
  pub numbered-filter : (keeps : A → Bool) (number first last : ℕ) (xs : List A) (h : A) → RiseWithin number_of first last xs → numbered number_of number xs ≡ Some h → numbered number_of number (filter keeps xs) ≡ cond (keeps h) (Some h) None
  numbered-filter keeps number first last [] h rise e = absurd (none-some h e)
  numbered-filter keeps number first last (x ∷ xs) h rise e =
      left_found keeps number first last x xs h rise (numbered-filter keeps number (number_of x) last xs h rise.2) (number_of x == number) refl e (keeps x) refl

  none_left : (keeps : A → Bool) (number : ℕ) (x : A) (xs : List A) → (numbered number_of number xs ≡ None → numbered number_of number (filter keeps xs) ≡ None) → (b : Bool) → (number_of x == number) ≡ b → cond b (Some x) (numbered number_of number xs) ≡ None →
      (k : Bool) → numbered number_of number (cond k (x ∷ filter keeps xs) (filter keeps xs)) ≡ None
  none_left keeps number x xs rest true test e k = absurd (none-some x (sym e))
  none_left keeps number x xs rest false test e true = ap (λ b. cond b (Some x) (numbered number_of number (filter keeps xs))) test ∙ rest e
  none_left keeps number x xs rest false test e false = rest e

  -- what is not found is not among those that are left
  pub numbered-filter_none : (keeps : A → Bool) (number : ℕ) (xs : List A) → numbered number_of number xs ≡ None → numbered number_of number (filter keeps xs) ≡ None
  numbered-filter_none keeps number [] e = refl
  numbered-filter_none keeps number (x ∷ xs) e = none_left keeps number x xs (numbered-filter_none keeps number xs) (number_of x == number) refl e (keeps x)

  -- ---- at a place of the list

  above_place : (at first last : ℕ) (xs : List A) (h : A) → RiseWithin number_of first last xs → slice_get xs at ≡ Some h → first < number_of h
  above_place at first last [] h rise e = absurd (none-some h e)
  above_place zero first last (x ∷ xs) h rise e = let above : first < number_of x = rise.0 in let same : number_of x ≡ number_of h = ap number_of (same_Some x h e) in omega arith
  above_place (suc at) first last (x ∷ xs) h rise e = let above : first < number_of x = rise.0 in let behind : number_of x < number_of h = above_place at (number_of x) last xs h rise.2 e in omega arith

  -- what stands at a place is found by its number
  pub numbered-at : (number at first last : ℕ) (xs : List A) (h : A) → RiseWithin number_of first last xs → slice_get xs at ≡ Some h → number_of h ≡ number → numbered number_of number xs ≡ Some h
  numbered-at number at first last [] h rise e is = absurd (none-some h e)
  numbered-at number zero first last (x ∷ xs) h rise e is =
      ap (λ b. cond b (Some x) (numbered number_of number xs)) (eq-eqb (number_of x) number (ap number_of (same_Some x h e) ∙ is)) ∙ e
  numbered-at number (suc at) first last (x ∷ xs) h rise e is =
      let above : number_of x < number_of h = above_place at (number_of x) last xs h rise.2 e in
      ap (λ b. cond b (Some x) (numbered number_of number xs)) (ne_eqb (number_of x) number (λ same. omega arith))
      ∙ numbered-at number at (number_of x) last xs h rise.2 e is

  -- where it is taken out, those of other numbers are left
  pub remove-at : (number at first last : ℕ) (xs : List A) (h : A) → RiseWithin number_of first last xs → slice_get xs at ≡ Some h → number_of h ≡ number → remove xs at ≡ without number_of number xs
  remove-at number at first last [] h rise e is = absurd (none-some h e)
  remove-at number zero first last (x ∷ xs) h rise e is =
      let same : number_of x ≡ number = ap number_of (same_Some x h e) ∙ is in
      sym (ap (λ b. cond (not b) (x ∷ without number_of number xs) (without number_of number xs)) (eq-eqb (number_of x) number same)
      ∙ without-absent number_of number xs (numbered-low number (number_of x) last xs (omega arith) rise.2))
  remove-at number (suc at) first last (x ∷ xs) h rise e is =
      let above : number_of x < number_of h = above_place at (number_of x) last xs h rise.2 e in
      ap (λ ys. x ∷ ys) (remove-at number at (number_of x) last xs h rise.2 e is)
      ∙ sym (ap (λ b. cond (not b) (x ∷ without number_of number xs) (without number_of number xs)) (ne_eqb (number_of x) number (λ same. omega arith)))

  -- with the one of a number changed
  abbrev pub changed : (A → A) → ℕ → List A → List A
  changed change number xs = map (λ x. cond (number_of x == number) (change x) x) xs

  -- where all numbers are higher nothing changes
  changed-low : (change : A → A) (number first last : ℕ) (xs : List A) → number ≤ first → RiseWithin number_of first last xs → changed change number xs ≡ xs
  changed-low change number first last [] low rise = refl
  changed-low change number first last (x ∷ xs) low rise =
      let above : first < number_of x = rise.0 in
      ap (λ b. cond b (change x) x ∷ changed change number xs) (ne_eqb (number_of x) number (λ e. omega arith))
      ∙ ap (λ ys. x ∷ ys) (changed-low change number (number_of x) last xs (omega arith) rise.2)

  -- it is changed at its place
  pub changed-at : (change : A → A) (number at first last : ℕ) (xs : List A) (h : A) → RiseWithin number_of first last xs → slice_get xs at ≡ Some h → number_of h ≡ number → slice_set xs at (change h) ≡ changed change number xs
  changed-at change number at first last [] h rise e is = absurd (none-some h e)
  changed-at change number zero first last (x ∷ xs) h rise e is =
      let same : x ≡ h = same_Some x h e in
      let low : number ≤ number_of x = let n : number_of x ≡ number_of h = ap number_of same in omega arith in
      ap (λ y. change y ∷ xs) (sym same)
      ∙ ap (λ ys. change x ∷ ys) (sym (changed-low change number (number_of x) last xs low rise.2))
      ∙ sym (ap (λ b. cond b (change x) x ∷ changed change number xs) (eq-eqb (number_of x) number (ap number_of same ∙ is)))
  changed-at change number (suc at) first last (x ∷ xs) h rise e is =
      let above : number_of x < number_of h = above_place at (number_of x) last xs h rise.2 e in
      ap (λ ys. x ∷ ys) (changed-at change number at (number_of x) last xs h rise.2 e is)
      ∙ sym (ap (λ b. cond b (change x) x ∷ changed change number xs) (ne_eqb (number_of x) number (λ same. omega arith)))
