-- By whose name a call is stepped: what is in hand under one name, and under another.
use Rattle.std.proofs.Common.{◌≡◌, ◌⊎◌, ℕ, inl, inr, Option, Some, None, Bool, true, false, cond, refl, sym, ap, ◌∙◌}
use Rattle.std.proofs.lemmas.Option.{same_Some}
use Rattle.ckpt_types.specs.declared.identities.ActorName.{ActorName}
use Rattle.ckpt_types.specs.declared.identities.CallId.{CallId}
use Rattle.ckpt_types.specs.declared.identities.Who.{Who}
use Rattle.ckpt_types.specs.declared.identities.Who.TheVariants.{Actor, Call}
use Rattle.ckpt_types.specs.declared.words.OpWord.{OpWord}
use Rattle.ckpt_types.specs.OpWord.{is_async, stepped_as}
use Rattle.call_dispatch.specs.PendingCalls.{PendingCalls}
use Rattle.cluster_record.specs.Calls.{same_call}
use Rattle.ckpt_machine.specs.Invariant.{AreCalls}
use Rattle.ckpt_machine.specs.Machine.{CallState, who}
use Rattle.ckpt_machine.specs.Whose.{same_who, put_who}
use Rattle.ckpt_machine.proofs.Actors.{same_actor-refl, same_actor-true, same_call-refl, same_call-true}

-- ---- names

-- a name is itself
pub same_who-refl : (w : Who) → same_who w w ≡ true
same_who-refl (Actor a) = same_actor-refl a
same_who-refl (Call c) = same_call-refl c

-- what is tested to be a name is it
pub same_who-true : (w v : Who) → same_who w v ≡ true → w ≡ v
same_who-true (Actor a) (Actor b) is = ap Actor (same_actor-true a b is)
same_who-true (Call c) (Call d) is = ap Call (same_call-true c d is)
same_who-true (Actor a) (Call d) is = absurd (cc is)
same_who-true (Call c) (Actor b) is = absurd (cc is)

-- names that are not one are two
pub same_who-false : (w v : Who) → (w ≡ v → ⊥) → same_who w v ≡ false
same_who-false w v two = elim (same_who w v) as (λ b. same_who w v ≡ b → same_who w v ≡ false) [ true ↦ λ same. absurd (two (same_who-true w v same)) | false ↦ λ other. other ] refl

-- a call that is no asynchronous one is stepped by the name of its actor
pub stepped_as-plain : (call : CallId) (word : OpWord) → is_async word ≡ false → stepped_as call word ≡ Actor call.actor
stepped_as-plain call word plain = ap (λ b. cond b (Call call) (Actor call.actor)) plain

-- and an asynchronous one by its own
pub stepped_as-async : (call : CallId) (word : OpWord) → is_async word ≡ true → stepped_as call word ≡ Call call
stepped_as-async call word async = ap (λ b. cond b (Call call) (Actor call.actor)) async

-- ---- a map with one value changed

pub put_who-cases : {X : Type 0} (f : Who → Option X) (w : Who) (o : Option X) (v : Who) (x : X) → put_who f w o v ≡ Some x → ((v ≡ w) × (o ≡ Some x)) ⊎ ((same_who v w ≡ false) × (f v ≡ Some x))
put_who-cases f w o v x e = by_test (same_who v w) refl e
  where
    by_test : (b : Bool) → same_who v w ≡ b → cond b o (f v) ≡ Some x → ((v ≡ w) × (o ≡ Some x)) ⊎ ((same_who v w ≡ false) × (f v ≡ Some x))
    by_test true same e = inl (same_who-true v w same, e)
    by_test false other e = inr (other, e)

pub put_who-here : {X : Type 0} (f : Who → X) (w : Who) (x : X) → put_who f w x w ≡ x
put_who-here f w x = ap (λ b. cond b x (f w)) (same_who-refl w)

pub put_who-other : {X : Type 0} (f : Who → X) (w : Who) (x : X) (v : Who) → same_who v w ≡ false → put_who f w x v ≡ f v
put_who-other f w x v other = ap (λ t. cond t x (f v)) other

-- where what is put stands there, all stays
pub put_who-same : {X : Type 0} (f : Who → X) (w : Who) (x : X) → x ≡ f w → (v : Who) → put_who f w x v ≡ f v
put_who-same f w x same v = elim (same_who v w) as (λ t. same_who v w ≡ t → cond t x (f v) ≡ f v) [ true ↦ λ is. same ∙ ap f (sym (same_who-true v w is)) | false ↦ λ other. refl ] refl

-- where nothing is in hand under a name, what is in hand is so under another
pub held_by_other : {X : Type 0} (f : Who → Option X) (w : Who) → f w ≡ None → (v : Who) (x : X) → f v ≡ Some x → same_who v w ≡ false
held_by_other f w idle v x at = same_who-false v w (λ same. (let none : None ≡ Some x = sym idle ∙ ap f (sym same) ∙ at in cc none))

-- ---- calls in hand

module _ (in_hand : Who → Option CallState) where
  -- what is in hand under one name is one state
  pub one_state : (w v : Who) (s t : CallState) → in_hand w ≡ Some s → in_hand v ≡ Some t → w ≡ v → s ≡ t
  one_state w v s t at there same = same_Some s t (sym at ∙ ap in_hand same ∙ there)

  -- and two states are in hand under two names
  pub apart_states : (s t : CallState) → in_hand (who s) ≡ Some s → in_hand (who t) ≡ Some t → (s ≡ t → ⊥) → same_who (who s) (who t) ≡ false
  apart_states s t at there apart = same_who-false (who s) (who t) (λ same. apart (one_state (who s) (who t) s t at there same))

  module _ (pending : ActorName → PendingCalls) (next : ActorName → ℕ) (calls : AreCalls in_hand pending next) where
    -- of a call there is one state in hand
    pub one_call : (w v : Who) (s t : CallState) → in_hand w ≡ Some s → in_hand v ≡ Some t → s.call ≡ t.call → s ≡ t
    one_call w v s t at there same = one_state w v s t at there (calls.one_name w v s t at there same)

    -- under two names two calls are in hand
    pub other_call : (w v : Who) (s t : CallState) → in_hand w ≡ Some s → in_hand v ≡ Some t → same_who w v ≡ false → same_call s.call t.call ≡ false
    other_call w v s t at there other = elim (same_call s.call t.call) as (λ b. same_call s.call t.call ≡ b → same_call s.call t.call ≡ false) [
      | true ↦ λ same. absurd (let w_is : same_who w v ≡ true = ap (λ x. same_who x v) (calls.one_name w v s t at there (same_call-true s.call t.call same)) ∙ same_who-refl v in let it : true ≡ false = sym w_is ∙ other in cc it)
      | false ↦ λ apart. apart
    ] refl

    -- of a call there is one state in hand under its own name
    pub same_state : (s t : CallState) → in_hand (who s) ≡ Some s → in_hand (who t) ≡ Some t → s.call ≡ t.call → s ≡ t
    same_state s t at there same = one_call (who s) (who t) s t at there same
