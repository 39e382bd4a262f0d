-- The calls in hand: one of each client, the asynchronous ones, and the copying of each node; each under the name by which it is stepped.
use Rattle.std.specs.Prelude.{ℕ, ◌<◌, length, List, [], ◌∷◌, ◌++◌, filter, Option, Some, Bool, slice_get, slice_set}
use Rattle.ckpt_types.specs.declared.identities.ActorName.{ActorName}
use Rattle.ckpt_types.specs.declared.identities.ActorName.TheVariants.{Client, Node}
use Rattle.ckpt_types.specs.declared.identities.CallId.{CallId}
use Rattle.ckpt_types.specs.declared.identities.Who.{Who}
use Rattle.ckpt_types.specs.declared.identities.Who.TheVariants.{Actor, Call}
use Rattle.cluster_record.specs.Places.{list_or, or_none}
use Rattle.client_calls.specs.declared.in_hand.InHand.{InHand}
use Rattle.client_calls.specs.AlonePlaces.{without_met, found_alone, changed_alone, has_other}

-- the call in hand of each client, the asynchronous calls of each that go on by themselves, and the copying of each node
pub record HandsState : Type 0 where
  pub clients : List (Option InHand)
  pub alone : List (List (Option InHand))
  pub nodes : List (Option InHand)

-- ---- what is in hand

-- the asynchronous calls of an actor; no node has one
abbrev pub alone_in : List (List (Option InHand)) → ActorName → List (Option InHand)
alone_in lists (Client c) = list_or (slice_get lists c)
alone_in lists (Node r) = []

-- the call for which an actor waits: a client for its own, a node for its copying
abbrev pub waited_in : HandsState → ActorName → Option InHand
waited_in hands (Client c) = or_none (slice_get hands.clients c)
waited_in hands (Node r) = or_none (slice_get hands.nodes r)

-- the call in hand under a name
abbrev pub hand_at : HandsState → Who → Option InHand
hand_at hands (Actor a) = waited_in hands a
hand_at hands (Call call) = found_alone call (alone_in hands.alone call.actor)

-- ---- what changes

-- the actor has its list of asynchronous calls
abbrev pub HasAlone : ActorName → HandsState → Type 0
HasAlone (Client c) hands = c < length hands.alone
HasAlone (Node r) hands = ⊥

-- the asynchronous calls of an actor changed
abbrev pub alone_with : ActorName → (List (Option InHand) → List (Option InHand)) → List (List (Option InHand)) → List (List (Option InHand))
alone_with (Client c) change lists = slice_set lists c (change (list_or (slice_get lists c)))
alone_with (Node r) change lists = lists

-- so they are in hand
abbrev pub with_alone_in : ActorName → (List (Option InHand) → List (Option InHand)) → HandsState → HandsState
with_alone_in a change hands = record hands { alone = alone_with a change hands.alone }

-- an actor waits for this
abbrev pub waited_with : ActorName → Option InHand → HandsState → HandsState
waited_with (Client c) o hands = record hands { clients = slice_set hands.clients c o }
waited_with (Node r) o hands = record hands { nodes = slice_set hands.nodes r o }

-- the place of a name is set
abbrev pub set_at : HandsState → Who → Option InHand → HandsState
set_at hands (Actor a) o = waited_with a o hands
set_at hands (Call call) o = with_alone_in call.actor (changed_alone call o) hands

-- without an asynchronous call, and without the place that one has left
abbrev pub without_call : CallId → HandsState → HandsState
without_call call hands = with_alone_in call.actor (filter (has_other call)) hands

-- an asynchronous call more
abbrev pub with_alone : InHand → HandsState → HandsState
with_alone h hands = with_alone_in h.call.actor (λ xs. xs ++ Some h ∷ []) hands

-- without the asynchronous calls of a client for which it holds
abbrev pub without_those : ℕ → (Who → Bool) → HandsState → HandsState
without_those c test hands = with_alone_in (Client c) (without_met test) hands

-- without all asynchronous calls of a client
abbrev pub without_all : ℕ → HandsState → HandsState
without_all c hands = with_alone_in (Client c) (λ xs. []) hands
