-- Asynchronous calls that are not dispatched, by their names.
use Rattle.std.proofs.Common.{◌≡◌, ◌≢◌, List, Some, true, false, ◌&&◌, ◌==◌, refl, sym, ap}
use Rattle.std.specs.Prelude.{Contains}
use Rattle.std.proofs.lemmas.Bool.{eqb-true, eq-eqb, and_parts}
use Rattle.std.proofs.lemmas.List.Elements.{Contains-append_left, Contains-append_right}
use Rattle.ckpt_types.specs.declared.identities.ActorName.{ActorName}
use Rattle.ckpt_types.specs.declared.identities.ActorName.TheVariants.{Client, Node}
use Rattle.ckpt_types.specs.declared.identities.CallId.{CallId}
use Rattle.call_dispatch.specs.PendingCalls.{PendingCalls, is_actor, is_call, find_async}
use Rattle.call_dispatch.specs.declared.async_call.AsyncCall.{AsyncCall}
use Rattle.call_dispatch.specs.declared.async_call.EndedCall.{EndedCall}
use Rattle.ckpt_machine.specs.Invariant.{calls_of}
use Rattle.ckpt_machine.proofs.KeptLists.{among_images, found_among}

-- what is tested to be a call is it
pub is_call-true : (a b : CallId) → is_call a b ≡ true → a ≡ b
is_call-true a b is =
    let (actors, numbers) = and_parts (is_actor a.actor b.actor) (a.number == b.number) is in
    let actor = is_actor-true a.actor b.actor actors in
    let number = eqb-true a.number b.number numbers in
    λ i. record { actor = actor i; number = number i }
  where
    is_actor-true : (x y : ActorName) → is_actor x y ≡ true → x ≡ y
    is_actor-true (Client c) (Client d) is = ap Client (eqb-true c d is)
    is_actor-true (Node r) (Node q) is = ap Node (eqb-true r q is)
    is_actor-true (Client c) (Node q) is = absurd (cc is)
    is_actor-true (Node r) (Client d) is = absurd (cc is)

-- a call is itself
pub is_call-refl : (c : CallId) → is_call c c ≡ true
is_call-refl c = λ i. is_actor-refl c.actor i && eq-eqb c.number c.number refl i
  where
    is_actor-refl : (x : ActorName) → is_actor x x ≡ true
    is_actor-refl (Client d) = eq-eqb d d refl
    is_actor-refl (Node r) = eq-eqb r r refl

-- and no other
pub is_call-false : (a b : CallId) → a ≢ b → is_call a b ≡ false
is_call-false a b other = elim (is_call a b) as (λ t. is_call a b ≡ t → is_call a b ≡ false) [ true ↦ λ same. absurd (other (is_call-true a b same)) | false ↦ λ apart. apart ] refl

-- what is found of a name has it
pub find_async-name : (call : CallId) (calls : List AsyncCall) (c : AsyncCall) → find_async call calls ≡ Some c → c.call ≡ call
find_async-name call calls c found = let (among, passes) = found_among (λ (kept : AsyncCall). is_call call kept.call) calls c found in sym (is_call-true call c.call passes)

-- one under way, and one that has ended
pub among_unfinished : (p : PendingCalls) (c : AsyncCall) → Contains p.unfinished c → Contains (calls_of p) c
among_unfinished p c there = Contains-append_left p.unfinished _ c there

pub among_finished : (p : PendingCalls) (e : EndedCall) → Contains p.finished e → Contains (calls_of p) e.asked
among_finished p e there = Contains-append_right p.unfinished _ e.asked (among_images (λ (ended : EndedCall). ended.asked) p.finished e there)
