-- Actors and their calls.
use Rattle.std.specs.Prelude.{ℕ, ◌<◌, Option, Some, None, Bool, false, ◌==◌, ◌&&◌, if◌then◌else◌}
use Rattle.ckpt_types.specs.declared.identities.ActorName.{ActorName}
use Rattle.ckpt_types.specs.declared.identities.ActorName.TheVariants.{Client, Node}
use Rattle.ckpt_types.specs.declared.identities.CallId.{CallId}
use Rattle.ckpt_types.specs.Limits.{client_numbers}

-- two names of one client, or of one node
abbrev pub same_actor : ActorName → ActorName → Bool
same_actor (Client a) (Client b) = a == b
same_actor (Node a) (Node b) = a == b
same_actor (Client a) (Node b) = false
same_actor (Node a) (Client b) = false

-- two names of one call
abbrev pub same_call : CallId → CallId → Bool
same_call a b = same_actor a.actor b.actor && (a.number == b.number)

-- the number of the client or node
abbrev pub number_of : ActorName → ℕ
number_of (Client c) = c
number_of (Node r) = r

-- the client that made a call
abbrev pub client_of : CallId → ℕ
client_of call = number_of call.actor

-- one of the clients that the script may name, c0 to c99
abbrev pub IsClient : ActorName → Type 0
IsClient (Client c) = c < client_numbers
IsClient (Node r) = ⊥

-- a map by actor with one value changed
abbrev pub put_actor : {X : Type 0} → (ActorName → X) → ActorName → X → ActorName → X
put_actor f a x b = if same_actor b a then x else f b

-- what is left of a call: it is in hand no more once it has ended
abbrev pub left : {X E : Type 0} → Option E → X → Option X
left None x = Some x
left (Some end) x = None
