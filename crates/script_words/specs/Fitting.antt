-- What the words of each class can say.
use Rattle.std.specs.Prelude.{◌^◌, ◌<◌, ◌≤◌, ⊤, length, ℤ, pos, negsuc, nat_abs}
use Rattle.hex.specs.Hex.{IsBytes}
use Rattle.ckpt_types.specs.declared.calls.Version.{Version}
use Rattle.ckpt_types.specs.declared.identities.ActorName.{ActorName}
use Rattle.ckpt_types.specs.declared.identities.ActorName.TheVariants as actor
use Rattle.ckpt_types.specs.declared.identities.Who.{Who}
use Rattle.ckpt_types.specs.declared.identities.Who.TheVariants as whose
use Rattle.ckpt_types.specs.declared.update.NewId.{NewId}
use Rattle.ckpt_types.specs.declared.update.NewId.TheVariants as new_ids
use Rattle.ckpt_types.specs.Limits.{client_numbers, ckpt_numbers, end_of_time, nodes_max, places_max, section_id_max}
use Rattle.script_words.specs.Words.{Class, a_client, a_node, a_place, an_iteration, a_ckpt, a_number, a_time, a_moment, some_bytes, an_id, a_new_id, a_version, the_callbacks, a_who, Meaning}

-- from -2^63 to 2^63-1
abbrev pub IsTime : ℤ → Type 0
IsTime (pos n) = n < 2 ^ 63
IsTime (negsuc n) = n < 2 ^ 63

-- from 0 on, before the end of time
abbrev pub IsMoment : ℤ → Type 0
IsMoment (pos n) = n < nat_abs end_of_time
IsMoment (negsuc n) = ⊥

-- a release from A to Z, and two numbers up to 255
abbrev pub IsVersion : Version → Type 0
IsVersion v = (65 ≤ v.release) × (v.release ≤ 90) × (v.major ≤ 255) × (v.minor ≤ 255)

-- an identifier that is not too long, or that the service is to make one
abbrev pub IsNewId : NewId → Type 0
IsNewId (new_ids.Given id) = IsBytes id × (length id ≤ section_id_max)
IsNewId new_ids.Generated = ⊤

-- a client or a node that a script may name
abbrev pub IsActor : ActorName → Type 0
IsActor (actor.Client c) = c < client_numbers
IsActor (actor.Node n) = n < nodes_max

-- a client whose call is named
abbrev pub IsCaller : ActorName → Type 0
IsCaller (actor.Client c) = c < client_numbers
IsCaller (actor.Node n) = ⊥

-- what a line may name to be stepped: an actor, or a call of a client
abbrev pub IsWho : Who → Type 0
IsWho (whose.Actor name) = IsActor name
IsWho (whose.Call call) = IsCaller call.actor × (1 ≤ call.number) × (call.number < 2 ^ 32)

-- what a word of the class can say
abbrev pub CanSay : (c : Class) → Meaning c → Type 0
CanSay a_client n = n < client_numbers
CanSay a_node n = n < nodes_max
CanSay a_place n = n < places_max
CanSay an_iteration n = n < places_max
CanSay a_ckpt n = (1 ≤ n) × (n < ckpt_numbers)
CanSay (a_number low high) n = (low ≤ n) × (n ≤ high)
CanSay a_time t = IsTime t
CanSay a_moment t = IsMoment t
CanSay some_bytes bytes = IsBytes bytes
CanSay an_id bytes = IsBytes bytes × (length bytes ≤ section_id_max)
CanSay a_new_id id = IsNewId id
CanSay a_version v = IsVersion v
CanSay the_callbacks set = ⊤
CanSay a_who who = IsWho who

-- the numbers of the class have 64 bits
abbrev pub Good : Class → Type 0
Good (a_number low high) = high < 2 ^ 64
Good _ = ⊤
