-- What a step asks of the record.
use Rattle.std.specs.Prelude.{◌≡◌, ℕ, ◌-◌, ◌^◌, ◌<◌, List, length, Option, Some, None, IfSome, true, false, slice_index}
use Rattle.ckpt_types.specs.declared.calls.OpenAsk.{OpenAsk}
use Rattle.ckpt_types.specs.declared.identities.CallId.{CallId}
use Rattle.ckpt_types.specs.Attributes.{IsWellFormed}
use Rattle.ckpt_types.specs.Limits.{nodes_max, client_numbers, checkpoints_max}
use Rattle.cluster_record.specs.declared.entries.Entry.{Entry}
use Rattle.cluster_record.specs.Calls.{IsClient, client_of}
use Rattle.cluster_record.specs.Kept.{IsName}
use Rattle.cluster_record.specs.RecordState.{RecordState, entry_of, is_live_client, is_up}

-- a call of a client that is not live yet, and a node that is up
pub record CanBecomeLive (call : CallId) (r : ℕ) (R : RecordState) : Type 0 where
  pub client : IsClient call.actor
  pub not_live : is_live_client (client_of call) R ≡ false
  pub node : is_up r R ≡ true

-- the ask is of a client that a script may name, on a node that is up, for a name that fits, and attributes that are given are well formed
pub record CanOpen (ask : OpenAsk) (R : RecordState) : Type 0 where
  pub client : ask.client < client_numbers
  pub node : is_up ask.node R ≡ true
  pub name : IsName ask.name
  pub attributes : IfSome ask.attrs IsWellFormed

-- a checkpoint more is not too many, and an identity is left
pub record CanCreate (R : RecordState) : Type 0 where
  pub room : length R.entries < checkpoints_max
  pub identity : R.last_identity < 2 ^ 32 - 1

-- the client's count of references is not at its end
abbrev pub CanRefer : ℕ → Option Entry → Type 0
CanRefer c None = Unit {0}
CanRefer c (Some e) = slice_index e.references c < 2 ^ 32 - 1

-- the client's count of references to this checkpoint is not at its end, where a checkpoint is meant
abbrev pub CanReferAt : ℕ → List Entry → Option ℕ → Type 0
CanReferAt c entries None = Unit {0}
CanReferAt c entries (Some k) = CanRefer c (entry_of k entries)

-- the generation of a checkpoint that is there is not at its end
abbrev pub CanSetActive : Option Entry → Type 0
CanSetActive None = Unit {0}
CanSetActive (Some e) = e.generation < 2 ^ 64 - 1

-- one of the nodes that is not up, and whose last incarnation is not at its end
pub record CanJoin (r : ℕ) (R : RecordState) : Type 0 where
  pub node : r < nodes_max
  pub down : is_up r R ≡ false
  pub incarnation : slice_index R.last_incarnations r < 2 ^ 32 - 1
