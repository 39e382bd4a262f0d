-- A call is in hand under its own name, was in hand where it is left when others are taken out, as those of a client that leaves, and is in hand nowhere when it has ended.
use Rattle.std.proofs.Common.{◌≡◌, ℕ, inl, inr, Option, Some, None, Bool, true, false, cond, sym, ap, ◌∙◌}
use Rattle.ckpt_types.specs.OpWord.{word_of_op, stepped_as}
use Rattle.call_dispatch.specs.PendingCalls.{PendingCalls}
use Rattle.ckpt_types.specs.declared.identities.ActorName.{ActorName}
use Rattle.ckpt_types.specs.declared.identities.CallId.{CallId}
use Rattle.ckpt_types.specs.declared.identities.Who.{Who}
use Rattle.ckpt_types.specs.declared.words.OpWord.{OpWord}
use Rattle.ckpt_machine.specs.Machine.{Machine, CallState, who}
use Rattle.ckpt_machine.specs.Invariant.{AreCalls}
use Rattle.ckpt_machine.specs.Whose.{same_who, put_who}
use Rattle.ckpt_machine.proofs.Whose.{same_who-refl, put_who-cases}

-- what is left in hand was in hand
pub left_was : {X : Type 0} (drops : Bool) (o : Option X) (x : X) → cond drops None o ≡ Some x → o ≡ Some x
left_was true o x is = absurd (cc is)
left_was false o x is = is

-- a call is in hand under its own name, where it is so by its word
pub held_as : (m : Machine) (call : CallId) (word : OpWord) (s : CallState) → m.in_hand (stepped_as call word) ≡ Some s → s.call ≡ call → word_of_op s.op ≡ word → m.in_hand (who s) ≡ Some s
held_as m call word s held call_is word_is = ap m.in_hand (ap (λ c. stepped_as c (word_of_op s.op)) call_is ∙ ap (stepped_as call) word_is) ∙ held

-- a call that has ended is in hand under no name
pub ended_none : (in_hand : Who → Option CallState) (pending : ActorName → PendingCalls) (next : ActorName → ℕ) → AreCalls in_hand pending next → (s : CallState) → in_hand (who s) ≡ Some s
    → (hands : Who → Option CallState) → ((w : Who) (z : CallState) → hands w ≡ Some z → in_hand w ≡ Some z) → (w : Who) (z : CallState) → put_who hands (who s) None w ≡ Some z → z.call ≡ s.call → ⊥
ended_none in_hand pending next calls s held hands was w z at same = elim (put_who-cases hands (who s) None w z at) [
  | inl here ↦ (let none : None ≡ Some z = here.1 in cc none)
  | inr other ↦ (
      let name : w ≡ who s = calls.one_name w (who s) z s (was w z other.1) held same in
      let it : true ≡ false = sym (ap (λ v. same_who v (who s)) name ∙ same_who-refl (who s)) ∙ other.0 in
      cc it)
]
