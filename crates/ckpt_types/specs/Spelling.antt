-- How the names of things, times and bytes are spelled, in a script and in what is printed.
use Rattle.std.specs.Prelude.{ℕ, ℤ, List, ◌∷◌, ◌++◌, codes, decimal, if◌then◌else◌}
use Rattle.std.specs.Fmt.{signed_decimal}
use Rattle.std.specs.Ordering.{int_eq}
use Rattle.hex.specs.Hex.{encode_lower}
use Rattle.ckpt_types.specs.declared.calls.Version.{Version}
use Rattle.ckpt_types.specs.declared.identities.ActorName.{ActorName}
use Rattle.ckpt_types.specs.declared.identities.ActorName.TheVariants.{Client, Node}
use Rattle.ckpt_types.specs.declared.identities.CallId.{CallId}
use Rattle.ckpt_types.specs.declared.identities.Who.{Who}
use Rattle.ckpt_types.specs.declared.identities.Who.TheVariants.{Actor, Call}
use Rattle.ckpt_types.specs.Limits.{end_of_time}

-- a client: `c0`
abbrev pub client_text : ℕ → List ℕ
client_text client = codes "c" ++ decimal client

-- a node: `n1`
abbrev pub node_text : ℕ → List ℕ
node_text node = codes "n" ++ decimal node

-- a checkpoint: `K1`
abbrev pub ckpt_text : ℕ → List ℕ
ckpt_text ckpt = codes "K" ++ decimal ckpt

-- who begins calls: a client or a node
abbrev pub actor_text : ActorName → List ℕ
actor_text (Client client) = client_text client
actor_text (Node node) = node_text node

-- a call, by who began it and its number: `c0.5`
abbrev pub call_text : CallId → List ℕ
call_text call = actor_text call.actor ++ codes "." ++ decimal call.number

-- whose call is stepped: an actor's that is in hand, or this one
abbrev pub who_text : Who → List ℕ
who_text (Actor actor) = actor_text actor
who_text (Call call) = call_text call

-- a time: its number, or `end` for the one that means never
abbrev pub time_text : ℤ → List ℕ
time_text time = if int_eq time end_of_time then codes "end" else signed_decimal time

-- bytes: `x` and two hexadecimal digits for each
abbrev pub bytes_text : List ℕ → List ℕ
bytes_text bytes = codes "x" ++ encode_lower bytes

-- a version: `B.2.2`
abbrev pub version_text : Version → List ℕ
version_text version = version.release ∷ codes "." ++ decimal version.major ++ codes "." ++ decimal version.minor
