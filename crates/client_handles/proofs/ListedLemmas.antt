-- The handles of a slab in rising order of their numbers: what is found among them, one more, and one gone.
use Rattle.std.proofs.Common.{◌≡◌, ◌≢◌, ℕ, zero, suc, ◌+◌, ◌<◌, ◌≤◌, ◌==◌, not, cond, List, [], ◌∷◌, ◌++◌, length, Option, Some, None, refl, sym, ap, subst, ◌∙◌, ◌⊎◌, inl, inr, arith, length-append, add-one}
use Rattle.std.specs.Option.{option_or}
use Rattle.std.proofs.lemmas.Bool.{cases_eq, eq-eqb, ne_eqb}
use Rattle.std.proofs.lemmas.List.{append-nil}
use Rattle.std.proofs.lemmas.List.Elements.{filter-append}
use Rattle.std.proofs.lemmas.List.Folds.{find-append}
use Rattle.client_handles.specs.ClientState.{handle_number, handle_numbered}
use Rattle.client_handles.specs.Kept.{kept_numbered, listed, handles_up_to}
use Rattle.client_handles.specs.Numbered.{without, RiseWithin}
use Rattle.client_handles.specs.declared.handle_view.HandleView.{HandleView}
use Rattle.client_handles.proofs.KeptLemmas.{found_is}
use Rattle.client_handles.proofs.RisingLaws.{RiseWithin-higher, RiseWithin-push}

-- ---- the same numbers

-- where the same are found up to a number, the same are listed
pub handles_up_to-same : (last : ℕ) (old new : List (Option HandleView)) → ((number : ℕ) → number ≤ last → kept_numbered number new ≡ kept_numbered number old) → handles_up_to last new ≡ handles_up_to last old
handles_up_to-same zero old new same = refl
handles_up_to-same (suc last) old new same =
    let rest : handles_up_to last new ≡ handles_up_to last old = handles_up_to-same last old new (λ number low. same number (omega arith)) in
    ap (λ hs. hs ++ listed (kept_numbered (suc last) new)) rest
    ∙ ap (λ o. handles_up_to last old ++ listed o) (same (suc last) (omega arith))

-- where there is none, none is listed
pub handles_up_to-none : (last : ℕ) → handles_up_to last [] ≡ []
handles_up_to-none zero = refl
handles_up_to-none (suc last) = ap (λ (hs : List HandleView). hs ++ []) (handles_up_to-none last)

-- one of the next number comes last
pub handles_up_to-more : (last : ℕ) (old new : List (Option HandleView)) (h : HandleView) → kept_numbered (last + 1) new ≡ Some h → ((number : ℕ) → number ≤ last → kept_numbered number new ≡ kept_numbered number old) → handles_up_to (last + 1) new ≡ handles_up_to last old ++ h ∷ []
handles_up_to-more last old new h found same =
    let here : kept_numbered (suc last) new ≡ Some h = sym (ap (λ n. kept_numbered n new) (add-one last)) ∙ found in
    ap (λ n. handles_up_to n new) (add-one last)
    ∙ ap (λ hs. hs ++ listed (kept_numbered (suc last) new)) (handles_up_to-same last old new same)
    ∙ ap (λ o. handles_up_to last old ++ listed o) here

-- ---- one gone

without_one : (number m : ℕ) (h : HandleView) → h.handle ≡ m → m ≢ number → without handle_number number (h ∷ []) ≡ h ∷ []
without_one number m h is differs = ap (λ b. cond (not b) (h ∷ []) []) (ne_eqb h.handle number (λ e. differs (sym is ∙ e)))

without_none : (number : ℕ) (h : HandleView) → h.handle ≡ number → without handle_number number (h ∷ []) ≡ []
without_none number h is = ap (λ b. cond (not b) (h ∷ []) []) (eq-eqb h.handle number is)

without_listed : (number m : ℕ) (slots : List (Option HandleView)) → m ≢ number → (o : Option HandleView) → kept_numbered m slots ≡ o → listed o ≡ without handle_number number (listed o)
without_listed number m slots differs None e = refl
without_listed number m slots differs (Some h) e = sym (without_one number m h (found_is m slots h e).is differs)

gone_listed : (number : ℕ) (slots : List (Option HandleView)) → (o : Option HandleView) → kept_numbered number slots ≡ o → [] ≡ without handle_number number (listed o)
gone_listed number slots None e = refl
gone_listed number slots (Some h) e = sym (without_none number h (found_is number slots h e).is)

module _ (number : ℕ) (old new : List (Option HandleView)) (gone : kept_numbered number new ≡ None) (same : (m : ℕ) → m ≢ number → kept_numbered m new ≡ kept_numbered m old) where
  gone_step : (m : ℕ) → (m ≡ number) ⊎ (m ≢ number) → listed (kept_numbered m new) ≡ without handle_number number (listed (kept_numbered m old))
  gone_step m (inl is) =
      ap listed (ap (λ n. kept_numbered n new) is ∙ gone)
      ∙ gone_listed number old (kept_numbered number old) refl
      ∙ ap (λ n. without handle_number number (listed (kept_numbered n old))) (sym is)
  gone_step m (inr differs) = ap listed (same m differs) ∙ without_listed number m old differs (kept_numbered m old) refl

  -- the others are listed as before
  pub handles_up_to-gone : (last : ℕ) → handles_up_to last new ≡ without handle_number number (handles_up_to last old)
  handles_up_to-gone zero = refl
  handles_up_to-gone (suc last) =
      let rest : handles_up_to last new ≡ without handle_number number (handles_up_to last old) = handles_up_to-gone last in
      ap (λ hs. hs ++ listed (kept_numbered (suc last) new)) rest
      ∙ ap (λ hs. without handle_number number (handles_up_to last old) ++ hs) (gone_step (suc last) (cases_eq (suc last) number))
      ∙ sym (filter-append (λ h. not (h.handle == number)) (handles_up_to last old) (listed (kept_numbered (suc last) old)))

  module _ (h : HandleView) (was : kept_numbered number old ≡ Some h) (from_one : 1 ≤ number) where
    fewer_case : (last : ℕ) → number ≤ suc last → (number ≤ last → length (handles_up_to last new) + 1 ≡ length (handles_up_to last old)) → (suc last ≡ number) ⊎ (suc last ≢ number) →
        length (handles_up_to (suc last) new) + 1 ≡ length (handles_up_to (suc last) old)
    fewer_case last within rest (inl is) =
        let front : handles_up_to last new ≡ handles_up_to last old = handles_up_to-same last old new (λ m low. same m (λ e. let n : m ≤ last = low in absurd (omega arith))) in
        let left : listed (kept_numbered (suc last) new) ≡ [] = ap listed (ap (λ n. kept_numbered n new) is ∙ gone) in
        let had : listed (kept_numbered (suc last) old) ≡ h ∷ [] = ap listed (ap (λ n. kept_numbered n old) is ∙ was) in
        let f : length (handles_up_to last new) ≡ length (handles_up_to last old) = ap length front in
        let l : length (listed (kept_numbered (suc last) new)) ≡ 0 = ap length left in
        let k : length (listed (kept_numbered (suc last) old)) ≡ 1 = ap length had in
        omega (arith, length-append (handles_up_to last new) (listed (kept_numbered (suc last) new)), length-append (handles_up_to last old) (listed (kept_numbered (suc last) old)))
    fewer_case last within rest (inr differs) =
        let low : number ≤ last = omega arith in
        let f : length (handles_up_to last new) + 1 ≡ length (handles_up_to last old) = rest low in
        let l : length (listed (kept_numbered (suc last) new)) ≡ length (listed (kept_numbered (suc last) old)) = ap (λ o. length (listed o)) (same (suc last) differs) in
        omega (arith, length-append (handles_up_to last new) (listed (kept_numbered (suc last) new)), length-append (handles_up_to last old) (listed (kept_numbered (suc last) old)))

    -- and they are one less
    pub length-handles_up_to-gone : (last : ℕ) → number ≤ last → length (handles_up_to last new) + 1 ≡ length (handles_up_to last old)
    length-handles_up_to-gone zero within = absurd (omega arith)
    length-handles_up_to-gone (suc last) within = fewer_case last within (length-handles_up_to-gone last) (cases_eq (suc last) number)

-- ---- what is found in the list

found_one : (number m : ℕ) (slots : List (Option HandleView)) → m ≡ number → (o : Option HandleView) → kept_numbered m slots ≡ o → handle_numbered number (listed o) ≡ o
found_one number m slots is None e = refl
found_one number m slots is (Some h) e = ap (λ b. cond b (Some h) None) (eq-eqb h.handle number ((found_is m slots h e).is ∙ is))

not_found_one : (number m : ℕ) (slots : List (Option HandleView)) → m ≢ number → (o : Option HandleView) → kept_numbered m slots ≡ o → handle_numbered number (listed o) ≡ None
not_found_one number m slots differs None e = refl
not_found_one number m slots differs (Some h) e = ap (λ b. cond b (Some h) None) (ne_eqb h.handle number (λ same. differs (sym (found_is m slots h e).is ∙ same)))

find_both : (number last : ℕ) (slots : List (Option HandleView)) → handle_numbered number (handles_up_to (suc last) slots) ≡ option_or (handle_numbered number (handles_up_to last slots)) (handle_numbered number (listed (kept_numbered (suc last) slots)))
find_both number last slots = find-append (λ h. h.handle == number) (handles_up_to last slots) (listed (kept_numbered (suc last) slots))

listed_or_none : (o : Option HandleView) → option_or o None ≡ o
listed_or_none None = refl
listed_or_none (Some h) = refl

-- none of a later number is listed
pub handle_numbered-past : (number last : ℕ) (slots : List (Option HandleView)) → last < number → handle_numbered number (handles_up_to last slots) ≡ None
handle_numbered-past number zero slots past = refl
handle_numbered-past number (suc last) slots past =
    let front : handle_numbered number (handles_up_to last slots) ≡ None = handle_numbered-past number last slots (omega arith) in
    let behind : handle_numbered number (listed (kept_numbered (suc last) slots)) ≡ None = not_found_one number (suc last) slots (λ e. omega arith) (kept_numbered (suc last) slots) refl in
    find_both number last slots ∙ ap (λ o. option_or o (handle_numbered number (listed (kept_numbered (suc last) slots)))) front ∙ behind

-- nor of the number 0
pub handle_numbered-zero : (last : ℕ) (slots : List (Option HandleView)) → handle_numbered 0 (handles_up_to last slots) ≡ None
handle_numbered-zero zero slots = refl
handle_numbered-zero (suc last) slots =
    let front : handle_numbered 0 (handles_up_to last slots) ≡ None = handle_numbered-zero last slots in
    let behind : handle_numbered 0 (listed (kept_numbered (suc last) slots)) ≡ None = not_found_one 0 (suc last) slots (λ e. omega arith) (kept_numbered (suc last) slots) refl in
    find_both 0 last slots ∙ ap (λ o. option_or o (handle_numbered 0 (listed (kept_numbered (suc last) slots)))) front ∙ behind

found_case : (number last : ℕ) (slots : List (Option HandleView)) → number ≤ suc last → (number ≤ last → handle_numbered number (handles_up_to last slots) ≡ kept_numbered number slots) → (suc last ≡ number) ⊎ (suc last ≢ number) →
    handle_numbered number (handles_up_to (suc last) slots) ≡ kept_numbered number slots
found_case number last slots within rest (inl is) =
    let front : handle_numbered number (handles_up_to last slots) ≡ None = handle_numbered-past number last slots (omega arith) in
    let behind : handle_numbered number (listed (kept_numbered (suc last) slots)) ≡ kept_numbered (suc last) slots = found_one number (suc last) slots is (kept_numbered (suc last) slots) refl in
    find_both number last slots ∙ ap (λ o. option_or o (handle_numbered number (listed (kept_numbered (suc last) slots)))) front ∙ behind ∙ ap (λ n. kept_numbered n slots) is
found_case number last slots within rest (inr differs) =
    let low : number ≤ last = omega arith in
    let behind : handle_numbered number (listed (kept_numbered (suc last) slots)) ≡ None = not_found_one number (suc last) slots differs (kept_numbered (suc last) slots) refl in
    find_both number last slots ∙ ap (λ o. option_or (handle_numbered number (handles_up_to last slots)) o) behind ∙ listed_or_none (handle_numbered number (handles_up_to last slots)) ∙ rest low

-- what is found of a number in the list is what is kept of it
pub handle_numbered-kept : (number last : ℕ) (slots : List (Option HandleView)) → 1 ≤ number → number ≤ last → handle_numbered number (handles_up_to last slots) ≡ kept_numbered number slots
handle_numbered-kept number zero slots from_one within = absurd (omega arith)
handle_numbered-kept number (suc last) slots from_one within = found_case number last slots within (handle_numbered-kept number last slots from_one) (cases_eq (suc last) number)

-- ---- their order

rising_step : (last : ℕ) (slots : List (Option HandleView)) (hs : List HandleView) → RiseWithin handle_number 0 last hs → (o : Option HandleView) → kept_numbered (suc last) slots ≡ o → RiseWithin handle_number 0 (suc last) (hs ++ listed o)
rising_step last slots hs rise None e = subst (RiseWithin handle_number 0 (suc last)) (sym (append-nil hs)) (RiseWithin-higher handle_number 0 last (suc last) hs (omega arith) rise)
rising_step last slots hs rise (Some h) e =
    let is : h.handle ≡ suc last = (found_is (suc last) slots h e).is in
    RiseWithin-push handle_number 0 last (suc last) hs h (omega arith) (omega arith) (omega arith) rise

-- their numbers rise
pub RiseWithin-handles_up_to : (last : ℕ) (slots : List (Option HandleView)) → RiseWithin handle_number 0 last (handles_up_to last slots)
RiseWithin-handles_up_to zero slots = tt
RiseWithin-handles_up_to (suc last) slots = rising_step last slots (handles_up_to last slots) (RiseWithin-handles_up_to last slots) (kept_numbered (suc last) slots) refl
