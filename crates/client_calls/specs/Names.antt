-- By whose name a call in hand is stepped.
use Rattle.std.specs.Prelude.{ℕ, ◌<◌}
use Rattle.ckpt_types.specs.declared.identities.ActorName.{ActorName}
use Rattle.ckpt_types.specs.declared.identities.ActorName.TheVariants.{Client, Node}
use Rattle.ckpt_types.specs.declared.identities.Who.{Who}
use Rattle.ckpt_types.specs.declared.identities.Who.TheVariants.{Actor, Call}
use Rattle.ckpt_types.specs.Asks.{Ask, MayAsk}
use Rattle.ckpt_types.specs.Limits.{client_numbers}
use Rattle.ckpt_types.specs.OpWord.{word_of_op, stepped_as}
use Rattle.cluster_record.specs.Calls.{number_of, client_of}
use Rattle.client_calls.specs.declared.in_hand.InHand.{InHand}

-- by whose name a call in hand is stepped
abbrev pub name_of : InHand → Who
name_of h = stepped_as h.call (word_of_op h.op)

-- the number of the client whose call is stepped by this name
abbrev pub client_by : Who → ℕ
client_by (Actor a) = number_of a
client_by (Call call) = client_of call

-- it is the name of a call that a client of a script may have
abbrev pub IsClientName : Who → Type 0
IsClientName (Actor (Client c)) = c < client_numbers
IsClientName (Actor (Node r)) = ⊥
IsClientName (Call call) = client_of call < client_numbers

-- it is a client, and may ask for this
abbrev pub IsClientOf : ActorName → Ask → Type 0
IsClientOf (Client c) ask = MayAsk (Client c) ask
IsClientOf (Node r) ask = ⊥
