-- What is found by its number in a slab, where each handle has a number of its own, and once a handle is
-- more or gone.
use Rattle.std.proofs.Common.{◌≡◌, ◌≢◌, ℕ, zero, suc, ◌+◌, ◌≤◌, ◌==◌, Bool, true, false, cond, List, [], ◌∷◌, Option, Some, None, get_or, refl, sym, ap, ◌∙◌, ◌⊎◌, inl, inr, arith}
use Rattle.std.proofs.lemmas.Bool.{cases_eq, eqb-true, eqb-false, eq-eqb}
use Rattle.std.proofs.lemmas.Option.{none-some, same_Some}
use Rattle.slab.specs.Slab.{Slab, get, Updates}
use Rattle.client_handles.specs.Kept.{where_numbered, kept_numbered, AreNumbered, IsKey, HaveKeys}
use Rattle.client_handles.specs.declared.handle_view.HandleView.{HandleView}
use Rattle.client_handles.specs.declared.kept.Bound.{Bound}

-- ---- in the slots

-- the handle h of that number is in a slot
pub record IsIn (number : ℕ) (slots : List (Option HandleView)) (h : HandleView) : Type 0 where
  pub key : ℕ
  pub at : get_or slots key None ≡ Some h
  pub is : h.handle ≡ number

IsIn-behind : (number : ℕ) (o : Option HandleView) (slots : List (Option HandleView)) (h : HandleView) → IsIn number slots h → IsIn number (o ∷ slots) h
IsIn-behind number o slots h there = record { key = suc there.key; at = there.at; is = there.is }

found_step : (number : ℕ) (x : HandleView) (slots : List (Option HandleView)) (h : HandleView) → (kept_numbered number slots ≡ Some h → IsIn number slots h) → (b : Bool) → (x.handle == number) ≡ b → cond b (Some x) (kept_numbered number slots) ≡ Some h → IsIn number (Some x ∷ slots) h
found_step number x slots h behind true test e =
    let same : x ≡ h = same_Some x h e in
    record { key = 0; at = e; is = sym (ap (λ (y : HandleView). y.handle) same) ∙ eqb-true x.handle number test }
found_step number x slots h behind false test e = IsIn-behind number (Some x) slots h (behind e)

-- what is found is in a slot
pub found_is : (number : ℕ) (slots : List (Option HandleView)) (h : HandleView) → kept_numbered number slots ≡ Some h → IsIn number slots h
found_is number [] h e = absurd (none-some h e)
found_is number (None ∷ slots) h e = IsIn-behind number None slots h (found_is number slots h e)
found_is number (Some x ∷ slots) h e = found_step number x slots h (found_is number slots h) (x.handle == number) refl e

some_step : (x : HandleView) (rest : Option HandleView) (b : Bool) → (b ≡ false → (o : HandleView) × (rest ≡ Some o)) → (o : HandleView) × (cond b (Some x) rest ≡ Some o)
some_step x rest true behind = (x, refl)
some_step x rest false behind = behind refl

-- where a handle of the number is in a slot, one is found
pub some_found : (number : ℕ) (slots : List (Option HandleView)) (key : ℕ) (h : HandleView) → get_or slots key None ≡ Some h → h.handle ≡ number → (o : HandleView) × (kept_numbered number slots ≡ Some o)
some_found number [] key h at is = absurd (none-some h at)
some_found number (None ∷ slots) zero h at is = absurd (none-some h at)
some_found number (None ∷ slots) (suc key) h at is = some_found number slots key h at is
some_found number (Some x ∷ slots) zero h at is =
    let test : (x.handle == number) ≡ true = eq-eqb x.handle number (ap (λ (y : HandleView). y.handle) (same_Some x h at) ∙ is) in
    (x, ap (λ b. cond b (Some x) (kept_numbered number slots)) test)
some_found number (Some x ∷ slots) (suc key) h at is =
    some_step x (kept_numbered number slots) (x.handle == number) (λ _. some_found number slots key h at is)

-- ---- where each has a number of its own

module _ (last : ℕ) (s : Slab HandleView) (numbers : AreNumbered last s) where
  -- a handle is found by its number
  pub kept_numbered-at : (number key : ℕ) (h : HandleView) → get s key ≡ Some h → h.handle ≡ number → kept_numbered number s.slots ≡ Some h
  kept_numbered-at number key h at is =
      let (o, found) = some_found number s.slots key h at is in
      let there = found_is number s.slots o found in
      let same : key ≡ there.key = numbers.apart key there.key h o at there.at (is ∙ sym there.is) in
      found ∙ sym there.at ∙ sym (ap (get s) same) ∙ at

  none_case : (number : ℕ) → ((key : ℕ) (h : HandleView) → get s key ≡ Some h → h.handle ≢ number) → (o : Option HandleView) → kept_numbered number s.slots ≡ o → o ≡ None
  none_case number none None e = refl
  none_case number none (Some h) e =
      let there = found_is number s.slots h e in
      absurd (none there.key h there.at there.is)

  -- none is found of a number that no handle has
  pub kept_numbered-none : (number : ℕ) → ((key : ℕ) (h : HandleView) → get s key ≡ Some h → h.handle ≢ number) → kept_numbered number s.slots ≡ None
  kept_numbered-none number none = none_case number none (kept_numbered number s.slots) refl

  under_case : (set : Bound) → IsKey last s set → (o : Option HandleView) → get s set.key ≡ o → kept_numbered set.number s.slots ≡ where_numbered set.number o
  under_case set keyed None e =
      kept_numbered-none set.number (λ key h at is. none-some h (sym e ∙ sym (ap (get s) (keyed.under key h at is)) ∙ at))
  under_case set keyed (Some h) e = by_test (h.handle == set.number) refl where
    by_test : (b : Bool) → (h.handle == set.number) ≡ b → kept_numbered set.number s.slots ≡ cond b (Some h) None
    by_test true test = kept_numbered-at set.number set.key h e (eqb-true h.handle set.number test)
    by_test false test =
        kept_numbered-none set.number (λ key o at is.
        let same : h ≡ o = same_Some h o (sym e ∙ sym (ap (get s) (keyed.under key o at is)) ∙ at) in
        eqb-false h.handle set.number test (ap (λ (y : HandleView). y.handle) same ∙ is))

  -- the handle of a place's number is the one under its key, where that has the number
  pub kept_numbered-under : (set : Bound) → IsKey last s set → kept_numbered set.number s.slots ≡ where_numbered set.number (get s set.key)
  kept_numbered-under set keyed = under_case set keyed (get s set.key) refl

-- two slabs that have the same handle of a number
pub record HaveSame (old new : Slab HandleView) (number : ℕ) : Type 0 where
  pub stays : (key : ℕ) (h : HandleView) → get old key ≡ Some h → h.handle ≡ number → (other : ℕ) × (get new other ≡ Some h)
  pub was : (key : ℕ) (h : HandleView) → get new key ≡ Some h → h.handle ≡ number → (other : ℕ) × (get old other ≡ Some h)

module _ (last later : ℕ) (old new : Slab HandleView) (before : AreNumbered last old) (after : AreNumbered later new) where
  same_case : (number : ℕ) → HaveSame old new number → (o : Option HandleView) → kept_numbered number old.slots ≡ o → kept_numbered number new.slots ≡ o
  same_case number same None e =
      kept_numbered-none later new after number (λ key h at is.
      let (other, there) = same.was key h at is in
      none-some h (sym e ∙ kept_numbered-at last old before number other h there is))
  same_case number same (Some h) e =
      let there = found_is number old.slots h e in
      let (other, at) = same.stays there.key h there.at there.is in
      kept_numbered-at later new after number other h at there.is

  pub kept_numbered-same : (number : ℕ) → HaveSame old new number → kept_numbered number new.slots ≡ kept_numbered number old.slots
  kept_numbered-same number same = same_case number same (kept_numbered number old.slots) refl

-- ---- a change of one slot

-- what a key has after a change of one: what was put there, or what it had
pub updated_cases : (old new : Slab HandleView) (key : ℕ) (slot : Option HandleView) (k : ℕ) (x : HandleView) → Updates old new key slot → get new k ≡ Some x → ((k ≡ key) × (slot ≡ Some x)) ⊎ ((k ≢ key) × (get old k ≡ Some x))
updated_cases old new key slot k x updates at =
    elim (cases_eq k key) [
      | inl same ↦ inl (same, sym updates.changed ∙ sym (ap (get new) same) ∙ at)
      | inr other ↦ inr (other, sym (updates.others k other) ∙ at)
    ]

-- ---- one handle more

module _ (last : ℕ) (old new : Slab HandleView) (key : ℕ) (h : HandleView) (numbers : AreNumbered last old) (vacant : get old key ≡ None) (updates : Updates old new key (Some h)) (is_next : h.handle ≡ last + 1) where
  more_from_one : (k : ℕ) (x : HandleView) → get new k ≡ Some x → 1 ≤ x.handle
  more_from_one k x at =
      elim (updated_cases old new key (Some h) k x updates at) [
        | inl here ↦ let e : h.handle ≡ x.handle = ap (λ (y : HandleView). y.handle) (same_Some h x here.1) in omega arith
        | inr there ↦ numbers.from_one k x there.1
      ]

  more_to_last : (k : ℕ) (x : HandleView) → get new k ≡ Some x → x.handle ≤ last + 1
  more_to_last k x at =
      elim (updated_cases old new key (Some h) k x updates at) [
        | inl here ↦ let e : h.handle ≡ x.handle = ap (λ (y : HandleView). y.handle) (same_Some h x here.1) in omega arith
        | inr there ↦ let e : x.handle ≤ last = numbers.to_last k x there.1 in omega arith
      ]

  -- a handle in the new slab that is not past the last number was there
  pub more_was : (k : ℕ) (x : HandleView) → get new k ≡ Some x → x.handle ≤ last → get old k ≡ Some x
  more_was k x at low =
      elim (updated_cases old new key (Some h) k x updates at) [
        | inl here ↦ let e : h.handle ≡ x.handle = ap (λ (y : HandleView). y.handle) (same_Some h x here.1) in absurd (omega arith)
        | inr there ↦ there.1
      ]

  -- and each one of the old slab is there
  more_stays : (k : ℕ) (x : HandleView) → get old k ≡ Some x → get new k ≡ Some x
  more_stays k x at = updates.others k (λ e. none-some x (sym vacant ∙ sym (ap (get old) e) ∙ at)) ∙ at

  more_apart : (k other : ℕ) (x o : HandleView) → get new k ≡ Some x → get new other ≡ Some o → x.handle ≡ o.handle → k ≡ other
  more_apart k other x o at there same =
      elim (updated_cases old new key (Some h) k x updates at) [
        | inl here ↦ elim (updated_cases old new key (Some h) other o updates there) [
          | inl too ↦ here.0 ∙ sym too.0
          | inr before ↦
              let e : h.handle ≡ x.handle = ap (λ (y : HandleView). y.handle) (same_Some h x here.1) in
              let low : o.handle ≤ last = numbers.to_last other o before.1 in
              absurd (omega arith)
        ]
        | inr was ↦ elim (updated_cases old new key (Some h) other o updates there) [
          | inl too ↦
              let e : h.handle ≡ o.handle = ap (λ (y : HandleView). y.handle) (same_Some h o too.1) in
              let low : x.handle ≤ last = numbers.to_last k x was.1 in
              absurd (omega arith)
          | inr before ↦ numbers.apart k other x o was.1 before.1 same
        ]
      ]

  pub AreNumbered-more : AreNumbered (last + 1) new
  AreNumbered-more = record { from_one = more_from_one; to_last = more_to_last; apart = more_apart }

  -- the new one is found by its number
  pub kept_numbered-more : kept_numbered (last + 1) new.slots ≡ Some h
  kept_numbered-more = kept_numbered-at (last + 1) new AreNumbered-more (last + 1) key h updates.changed is_next

  -- and the others are by theirs
  pub kept_numbered-others : (number : ℕ) → number ≤ last → kept_numbered number new.slots ≡ kept_numbered number old.slots
  kept_numbered-others number low =
      kept_numbered-same last (last + 1) old new numbers AreNumbered-more number (record {
        stays = λ k x at is. (k, more_stays k x at);
        was = λ k x at is. let few : x.handle ≤ last = omega arith in (k, more_was k x at few);
      })

  pub HaveKeys-more : (places : List (Option Bound)) → HaveKeys last old places → HaveKeys (last + 1) new places
  HaveKeys-more places keys place set at =
      let keyed = keys place set at in
      let low : set.number ≤ last = keyed.to_last in
      record {
        from_one = keyed.from_one;
        to_last = omega arith;
        under = λ k x there is. let few : x.handle ≤ last = omega arith in keyed.under k x (more_was k x there few) is;
      }

-- ---- one handle gone

module _ (last : ℕ) (old new : Slab HandleView) (key : ℕ) (h : HandleView) (numbers : AreNumbered last old) (at_key : get old key ≡ Some h) (updates : Updates old new key None) where
  -- each handle that is left was there, under another key
  gone_was : (k : ℕ) (x : HandleView) → get new k ≡ Some x → (k ≢ key) × (get old k ≡ Some x)
  gone_was k x at =
      elim (updated_cases old new key None k x updates at) [
        | inl here ↦ absurd (none-some x here.1)
        | inr there ↦ there
      ]

  pub AreNumbered-gone : AreNumbered last new
  AreNumbered-gone = record {
    from_one = λ k x at. numbers.from_one k x (gone_was k x at).1;
    to_last = λ k x at. numbers.to_last k x (gone_was k x at).1;
    apart = λ k other x o at there same. numbers.apart k other x o (gone_was k x at).1 (gone_was other o there).1 same;
  }

  -- it is found no more
  pub kept_numbered-gone : kept_numbered h.handle new.slots ≡ None
  kept_numbered-gone =
      kept_numbered-none last new AreNumbered-gone h.handle (λ k x at is.
      let was = gone_was k x at in
      was.0 (numbers.apart k key x h was.1 at_key is))

  -- and the others are
  pub kept_numbered-left : (number : ℕ) → number ≢ h.handle → kept_numbered number new.slots ≡ kept_numbered number old.slots
  kept_numbered-left number other =
      kept_numbered-same last last old new numbers AreNumbered-gone number (record {
        stays = λ k x at is.
            let differs : k ≢ key = λ e. other (sym is ∙ ap (λ (y : HandleView). y.handle) (same_Some x h (sym at ∙ ap (get old) e ∙ at_key))) in
            (k, updates.others k differs ∙ at);
        was = λ k x at is. (k, (gone_was k x at).1);
      })

  pub HaveKeys-gone : (places : List (Option Bound)) → HaveKeys last old places → HaveKeys last new places
  HaveKeys-gone places keys place set at =
      let keyed = keys place set at in
      record {
        from_one = keyed.from_one;
        to_last = keyed.to_last;
        under = λ k x there is. keyed.under k x (gone_was k x there).1 is;
      }
