-- How many of a client's handles are of a checkpoint, and by which numbers they are told apart, behind each change of its tables.
use Rattle.std.proofs.Common.{◌≡◌, ℕ, ◌+◌, ◌≤◌, inl, inr, List, [], ◌∷◌, ◌++◌, length, filter, Some, Bool, true, false, cond, not, ◌==◌, refl, sym, ap, ◌∙◌, arith}
use Rattle.std.specs.Prelude.{Contains}
use Rattle.std.proofs.lemmas.Bool.{eqb-true, eq-eqb}
use Rattle.std.proofs.lemmas.Option.{same_Some}
use Rattle.node_core.proofs.OnceByKey.{Contains-cases}
use Rattle.client_handles.specs.ClientState.{handle_number, handle_numbered}
use Rattle.client_handles.specs.Numbered.{without}
use Rattle.client_handles.specs.Numbered.{RiseWithin}
use Rattle.client_handles.specs.declared.handle_view.HandleView.{HandleView}
use Rattle.client_handles.proofs.NumberedLaws.{without-absent}
use Rattle.client_handles.proofs.RisingLaws.{numbered-low}
use Rattle.ckpt_machine.specs.References.{handles_of}
use Rattle.ckpt_machine.proofs.KeptLists.{among_first, among_others}

-- ---- how many are of a checkpoint

-- one is, or is not
abbrev pub of_it : ℕ → HandleView → ℕ
of_it k h = cond (h.id == k) 1 0

handles_of-cons : (k : ℕ) (h : HandleView) (hs : List HandleView) → handles_of k (h ∷ hs) ≡ handles_of k hs + of_it k h
handles_of-cons k h hs = elim (h.id == k) as (λ b. length (cond b (h ∷ filter (λ h. h.id == k) hs) (filter (λ h. h.id == k) hs)) ≡ handles_of k hs + cond b 1 0) [ true ↦ omega arith | false ↦ omega arith ]

-- with one more at the end
pub handles_of-push : (k : ℕ) (hs : List HandleView) (h : HandleView) → handles_of k (hs ++ h ∷ []) ≡ handles_of k hs + of_it k h
handles_of-push k [] h = handles_of-cons k h []
handles_of-push k (x ∷ xs) h =
    let a = handles_of-cons k x (xs ++ h ∷ []) in
    let b = handles_of-cons k x xs in
    let c = handles_of-push k xs h in
    omega (arith, a, b, c)

-- without the one of a number, where there is one
pub handles_of-without : (k number first last : ℕ) (hs : List HandleView) (h : HandleView) → RiseWithin handle_number first last hs → handle_numbered number hs ≡ Some h → handles_of k (without handle_number number hs) + of_it k h ≡ handles_of k hs
handles_of-without k number first last [] h rise found = absurd (cc found)
handles_of-without k number first last (x ∷ xs) h rise found = by_test (handles_of-without k number (handle_number x) last xs h rise.2) (handle_number x == number) refl found
  where
    by_test : (handle_numbered number xs ≡ Some h → handles_of k (without handle_number number xs) + of_it k h ≡ handles_of k xs) → (b : Bool) → (handle_number x == number) ≡ b → cond b (Some x) (handle_numbered number xs) ≡ Some h → handles_of k (cond (not b) (x ∷ without handle_number number xs) (without handle_number number xs)) + of_it k h ≡ handles_of k (x ∷ xs)
    by_test rest true is here =
        let at : handle_number x ≡ number = eqb-true (handle_number x) number is in
        let others : without handle_number number xs ≡ xs = without-absent handle_number number xs (numbered-low handle_number number (handle_number x) last xs (omega (arith, at)) rise.2) in
        ap (λ ys. handles_of k ys + of_it k h) others ∙ ap (λ y. handles_of k xs + of_it k y) (sym (same_Some x h here)) ∙ sym (handles_of-cons k x xs)
    by_test rest false other there =
        let a = handles_of-cons k x (without handle_number number xs) in
        let b = handles_of-cons k x xs in
        let c = rest there in
        omega (arith, a, b, c)

-- none, where each is of another checkpoint
pub handles_of-none : (k : ℕ) (hs : List HandleView) → ((h : HandleView) → Contains hs h → (h.id == k) ≡ false) → handles_of k hs ≡ 0
handles_of-none k [] others = refl
handles_of-none k (x ∷ xs) others =
    let a = handles_of-cons k x xs in
    let b : of_it k x ≡ 0 = ap {B = ℕ} (λ b. cond b 1 0) (others x (among_first x xs)) in
    let c = handles_of-none k xs (λ h there. others h (among_others x xs h there)) in
    omega (arith, a, b, c)

-- some, where one is of it
pub handles_of-some : (k : ℕ) (hs : List HandleView) (h : HandleView) → Contains hs h → h.id ≡ k → 1 ≤ handles_of k hs
handles_of-some k [] h (i, within, is) same = absurd (omega (arith, within))
handles_of-some k (x ∷ xs) h there same =
    let a = handles_of-cons k x xs in
    elim (Contains-cases x xs h there) [
      | inl here ↦ (let b : of_it k x ≡ 1 = ap {B = ℕ} (λ b. cond b 1 0) (eq-eqb x.id k (ap (λ (y : HandleView). y.id) here ∙ same)) in omega (arith, a, b))
      | inr behind ↦ (let b = handles_of-some k xs h behind same in omega (arith, a, b))
    ]
