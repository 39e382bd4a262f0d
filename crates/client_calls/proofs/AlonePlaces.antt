-- The place of a call among the asynchronous ones of its client.
use Rattle.std.proofs.Common.{◌≡◌, ℕ, zero, suc, ◌+◌, ◌<◌, true, false, List, [], ◌∷◌, length, refl, sym, ap, subst, ◌∙◌, cond, arith}
use Rattle.std.specs.Prelude.{Option, Some, None, take, slice_get}
use Rattle.ckpt_types.specs.declared.identities.CallId.{CallId}
use Rattle.client_calls.specs.declared.in_hand.InHand.{InHand}
use Rattle.client_calls.specs.AlonePlaces.{IsPlaceOf, changed_alone, found_alone, has_call}

-- none of these has the call
abbrev pub NoneHas : CallId → List (Option InHand) → Type 0
NoneHas call [] = Unit {0}
NoneHas call (y ∷ xs) = (has_call call y ≡ false) × NoneHas call xs

none_more_suc : (call : CallId) (xs : List (Option InHand)) (i : ℕ) (x : Option InHand) → NoneHas call (take i xs) → slice_get xs i ≡ Some x → has_call call x ≡ false → NoneHas call (take (suc i) xs)
none_more_suc call [] i x before there other = absurd (cc there)
none_more_suc call (y ∷ xs) zero x before there other = let same : y ≡ x = cc there in (subst (λ z. has_call call z ≡ false) (sym same) other, tt)
none_more_suc call (y ∷ xs) (suc i) x before there other = (before.0, none_more_suc call xs i x before.1 there other)

-- one more of those that were passed
pub none_more : (call : CallId) (xs : List (Option InHand)) (i : ℕ) (x : Option InHand) → NoneHas call (take i xs) → slice_get xs i ≡ Some x → has_call call x ≡ false → NoneHas call (take (i + 1) xs)
none_more call xs i x before there other = let next : suc i ≡ i + 1 = omega arith in subst (λ n. NoneHas call (take n xs)) next (none_more_suc call xs i x before there other)

-- a place that has the call, where none before it has it
pub place_here : (call : CallId) (xs : List (Option InHand)) (i : ℕ) (x : Option InHand) → NoneHas call (take i xs) → slice_get xs i ≡ Some x → has_call call x ≡ true → IsPlaceOf call xs i
place_here call [] i x before there here = absurd (cc there)
place_here call (y ∷ xs) zero x before there here =
    let same : y ≡ x = cc there in
    let is : has_call call y ≡ true = subst (λ z. has_call call z ≡ true) (sym same) here in
    record {
      within = let it : 0 < suc (length xs) = omega arith in it;
      there = ap (λ b. Some (cond b y (found_alone call xs))) (sym is);
      set = λ o. ap (λ b. cond b (o ∷ xs) (y ∷ changed_alone call o xs)) is;
    }
place_here call (y ∷ xs) (suc i) x before there here =
    let more = place_here call xs i x before.1 there here in
    record {
      within = let inside = more.within in omega (arith, inside);
      there = more.there ∙ ap (λ b. Some (cond b y (found_alone call xs))) (sym before.0);
      set = λ o. ap (λ b. cond b (o ∷ xs) (y ∷ changed_alone call o xs)) before.0 ∙ ap (λ zs. y ∷ zs) (more.set o);
    }

-- a call that no place has is not found
pub none_found : (call : CallId) (xs : List (Option InHand)) → NoneHas call xs → found_alone call xs ≡ None
none_found call [] none = refl
none_found call (y ∷ xs) none = ap (λ b. cond b y (found_alone call xs)) none.0 ∙ none_found call xs none.1
