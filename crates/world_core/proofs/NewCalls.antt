-- The next call of a client is new: none of its name is in hand, nor is one kept till it is dispatched.
use Rattle.std.proofs.Common.{◌≡◌, ℕ, List, [], ◌∷◌, Option, Some, None, Bool, true, false, cond, ◌||◌, refl, sym, ap, subst, ◌∙◌, arith}
use Rattle.std.specs.List.{list_any}
use Rattle.std.specs.Prelude.{Contains, slice_get}
use Rattle.ckpt_types.specs.declared.identities.ActorName.TheVariants.{Client}
use Rattle.ckpt_types.specs.declared.identities.CallId.{CallId}
use Rattle.ckpt_types.specs.declared.identities.Who.TheVariants.{Actor, Call}
use Rattle.ckpt_types.specs.declared.words.OpWord.{OpWord}
use Rattle.ckpt_types.specs.OpWord.{is_async, stepped_as}
use Rattle.call_dispatch.specs.PendingCalls.{PendingCalls, is_call, is_pending, find_async}
use Rattle.call_dispatch.specs.declared.async_call.AsyncCall.{AsyncCall}
use Rattle.call_dispatch.specs.declared.async_call.EndedCall.{EndedCall}
use Rattle.ckpt_machine.specs.Facts.{Facts}
use Rattle.ckpt_machine.specs.Invariant.{IsBegunBy, IsKeptOf, calls_of}
use Rattle.ckpt_machine.specs.Machine.{Machine, CallState}
use Rattle.ckpt_machine.proofs.AsyncNames.{async_named}
use Rattle.ckpt_machine.proofs.PendingNames.{is_call-true, among_unfinished, among_finished}
use Rattle.ckpt_machine.proofs.KeptLists.{among_first, among_others, found_among}
use Rattle.ckpt_machine.proofs.OptionLemmas.{IsSomeAnd-at}
use Rattle.client_calls.specs.declared.in_hand.InHand.{InHand}
use Rattle.world_core.specs.declared.world.World.{World}
use Rattle.world_core.specs.HandsState.{hand_at}
use Rattle.world_core.specs.Shows.{History, machine_of, shown_hand}
use Rattle.world_core.specs.TablesState.{pending_by}
use Rattle.client_calls.specs.TableState.{next_in}

-- where a test holds of none, it holds of none that is among them
none_passes : {X : Type 0} (p : X → Bool) (xs : List X) → ((x : X) → Contains xs x → p x ≡ true → ⊥) → list_any p xs ≡ false
none_passes p [] fail = refl
none_passes p (x ∷ xs) fail = by_test (p x) refl (none_passes p xs (λ y there passes. fail y (among_others x xs y there) passes)) where
  by_test : (b : Bool) → p x ≡ b → list_any p xs ≡ false → (p x || list_any p xs) ≡ false
  by_test true is rest = absurd (fail x (among_first x xs) is)
  by_test false is rest = ap (λ b. b || list_any p xs) is ∙ rest

-- ---- in the machine

module _ (m : Machine) (facts : Facts m) (call : CallId) (number : call.number ≡ m.next call.actor) where
  -- what is kept till it is dispatched has a lower number
  not_kept : (c : AsyncCall) → Contains (calls_of (m.pending call.actor)) c → c.call ≡ call → ⊥
  not_kept c there same =
      let given : IsBegunBy m.next call.actor c = facts.calls.begun call.actor c there in
      let lower = given.number in
      let its : c.call.number ≡ m.next call.actor = ap (λ (x : CallId). x.number) same ∙ number in
      omega (arith, lower, its)

  -- so it is not one of those
  pub is_not_pending : is_pending call (m.pending call.actor) ≡ false
  is_not_pending =
      let p : PendingCalls = m.pending call.actor in
      let unfinished = none_passes (λ (kept : AsyncCall). is_call call kept.call) p.unfinished (λ c there is. not_kept c (among_unfinished p c there) (sym (is_call-true call c.call is))) in
      let finished = none_passes (λ (ended : EndedCall). is_call call ended.asked.call) p.finished (λ e there is. not_kept e.asked (among_finished p e there) (sym (is_call-true call e.asked.call is))) in
      λ i. unfinished i || finished i

  -- nor is it in hand under its own name
  pub is_not_in_hand : m.in_hand (Call call) ≡ None
  is_not_in_hand = by_state (m.in_hand (Call call)) refl where
    by_state : (o : Option CallState) → m.in_hand (Call call) ≡ o → m.in_hand (Call call) ≡ None
    by_state None none = none
    by_state (Some s) held =
        let (async, same) = async_named s call (facts.callers (Call call) s held) in
        let (c, found, of) = IsSomeAnd-at (find_async s.call (m.pending s.call.actor).unfinished) (IsKeptOf s) (facts.calls.kept (Call call) s held async) in
        let there = (found_among (λ (kept : AsyncCall). is_call s.call kept.call) (m.pending s.call.actor).unfinished c found).0 in
        let at : Contains (calls_of (m.pending call.actor)) c = subst (λ (z : CallId). Contains (calls_of (m.pending z.actor)) c) same (among_unfinished (m.pending s.call.actor) c there) in
        absurd (not_kept c at (of.call ∙ same))

-- ---- in the world

-- what the machine has not in hand the world has not
none_shown : (o : Option InHand) (h : History) (v : _) → shown_hand (h.beginnings v) (h.steps v) (h.created v) (h.pulled v) o ≡ None → o ≡ None
none_shown None h v is = refl
none_shown (Some hand) h v is = absurd (cc is)

module _ (w : World) (h : History) (facts : Facts (machine_of w h)) (c : ℕ) where
  -- the next call
  abbrev pub next_call : CallId
  next_call = record { actor = Client c; number = next_in (slice_get w.tables c) }

  pub new_pending : is_pending next_call (pending_by w.tables c) ≡ false
  new_pending = is_not_pending (machine_of w h) facts next_call refl

  -- by whichever name it is stepped, nothing is in hand under that, where its client waits for no call
  pub new_idle : (word : OpWord) → hand_at w.hands (Actor (Client c)) ≡ None → hand_at w.hands (stepped_as next_call word) ≡ None
  new_idle word none = by_word (is_async word) where
    by_word : (b : Bool) → hand_at w.hands (cond b (Call next_call) (Actor (Client c))) ≡ None
    by_word true = none_shown (hand_at w.hands (Call next_call)) h (Call next_call) (is_not_in_hand (machine_of w h) facts next_call refl)
    by_word false = none
