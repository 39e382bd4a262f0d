-- What is so of the calls in hand, and of the asynchronous ones that are not dispatched, stays so.
use Rattle.std.proofs.Common.{◌≡◌, ◌≢◌, ◌⊎◌, ℕ, inl, inr, Option, Some, None, true, false, sym, ap, ◌∙◌}
use Rattle.std.specs.Prelude.{IsSomeAnd}
use Rattle.std.proofs.lemmas.Option.{same_Some}
use Rattle.ckpt_types.specs.declared.identities.ActorName.{ActorName}
use Rattle.ckpt_types.specs.declared.identities.CallId.{CallId}
use Rattle.ckpt_types.specs.declared.identities.Who.{Who}
use Rattle.ckpt_types.specs.Asks.{invocation_of}
use Rattle.ckpt_types.specs.OpWord.{is_async, word_of_op}
use Rattle.call_dispatch.specs.PendingCalls.{PendingCalls, find_async}
use Rattle.cluster_record.specs.Calls.{left}
use Rattle.ckpt_machine.specs.Invariant.{AreCalls, IsKeptOf}
use Rattle.ckpt_machine.specs.Machine.{CallState, who}
use Rattle.ckpt_machine.specs.After.{kind_of}
use Rattle.ckpt_machine.specs.Whose.{put_who, same_who}
use Rattle.ckpt_machine.proofs.OptionLemmas.{IsSomeAnd-at, IsSomeAnd-from}
use Rattle.ckpt_machine.proofs.Whose.{put_who-cases, same_who-refl}

-- ---- a call that goes on or ends

-- what is left of a call is that call, with its operation
abbrev pub IsSameCall : CallState → Option CallState → Type 0
IsSameCall s o = (z : CallState) → o ≡ Some z → (z.call ≡ s.call) × (z.op ≡ s.op)

-- nothing is left
pub same_call-None : (s : CallState) → IsSameCall s None
same_call-None s z is = absurd (cc is)

-- this is left
pub same_call-Some : (s x : CallState) → x.call ≡ s.call → x.op ≡ s.op → IsSameCall s (Some x)
same_call-Some s x call op z is = (ap (λ (y : CallState). y.call) (sym (same_Some x z is)) ∙ call, ap (λ (y : CallState). y.op) (sym (same_Some x z is)) ∙ op)

-- this is left where it has not ended
pub same_call-left : {E : Type 0} (s x : CallState) (end : Option E) → x.call ≡ s.call → x.op ≡ s.op → IsSameCall s (left end x)
same_call-left s x None call op = same_call-Some s x call op
same_call-left s x (Some end) call op = same_call-None s

-- what is kept of a call is kept of it by its name and operation alone
pub kept_as : (pending : ActorName → PendingCalls) (s z : CallState) → z.call ≡ s.call → z.op ≡ s.op → IsSomeAnd (find_async s.call (pending s.call.actor).unfinished) (IsKeptOf s) → IsSomeAnd (find_async z.call (pending z.call.actor).unfinished) (IsKeptOf z)
kept_as pending s z call op kept =
    let (c, found, of) = IsSomeAnd-at (find_async s.call (pending s.call.actor).unfinished) (IsKeptOf s) kept in
    IsSomeAnd-from (find_async z.call (pending z.call.actor).unfinished) (IsKeptOf z) c (ap (λ (d : CallId). find_async d (pending d.actor).unfinished) call ∙ found) (record {
      call = of.call ∙ sym call;
      kind = of.kind ∙ ap kind_of (sym op);
      invocation = of.invocation ∙ ap invocation_of (sym op);
    })

module _ (in_hand : Who → Option CallState) (pending : ActorName → PendingCalls) (next : ActorName → ℕ) (calls : AreCalls in_hand pending next) (s : CallState) (held : in_hand (who s) ≡ Some s) where
  -- what is in hand under another name is another call
  pub apart_from : (w : Who) (z : CallState) → in_hand w ≡ Some z → same_who w (who s) ≡ false → z.call ≢ s.call
  apart_from w z at other same = let it : true ≡ false = sym (same_who-refl (who s)) ∙ ap (λ v. same_who v (who s)) (sym (calls.one_name w (who s) z s at held same)) ∙ other in cc it

  -- all is so of the calls in hand, where this is left of one
  pub calls_left : (o : Option CallState) → IsSameCall s o → AreCalls (put_who in_hand (who s) o) pending next
  calls_left o same = record {
    one_name = λ w v x y at there is. one_name w v x y (put_who-cases in_hand (who s) o w x at) (put_who-cases in_hand (who s) o v y there) is;
    begun = calls.begun;
    kept = λ w z at async. kept w z async (put_who-cases in_hand (who s) o w z at);
  }
    where
      one_name : (w v : Who) (x y : CallState) → ((w ≡ who s) × (o ≡ Some x)) ⊎ ((same_who w (who s) ≡ false) × (in_hand w ≡ Some x)) → ((v ≡ who s) × (o ≡ Some y)) ⊎ ((same_who v (who s) ≡ false) × (in_hand v ≡ Some y)) → x.call ≡ y.call → w ≡ v
      one_name w v x y (inl here) (inl there) is = here.0 ∙ sym there.0
      one_name w v x y (inl here) (inr there) is = here.0 ∙ calls.one_name (who s) v s y held there.1 (sym (same x here.1).0 ∙ is)
      one_name w v x y (inr here) (inl there) is = calls.one_name w (who s) x s here.1 held (is ∙ (same y there.1).0) ∙ sym there.0
      one_name w v x y (inr here) (inr there) is = calls.one_name w v x y here.1 there.1 is

      kept : (w : Who) (z : CallState) → is_async (word_of_op z.op) ≡ true → ((w ≡ who s) × (o ≡ Some z)) ⊎ ((same_who w (who s) ≡ false) × (in_hand w ≡ Some z)) → IsSomeAnd (find_async z.call (pending z.call.actor).unfinished) (IsKeptOf z)
      kept w z async (inl here) = let (call, op) = same z here.1 in kept_as pending s z call op (calls.kept (who s) s held (ap (λ x. is_async (word_of_op x)) (sym op) ∙ async))
      kept w z async (inr there) = calls.kept w z there.1 async
