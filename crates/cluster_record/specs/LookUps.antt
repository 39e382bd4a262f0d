-- What is read of a client and of a checkpoint that may be there or not.
use Rattle.std.specs.Prelude.{ℕ, Option, Some, None, Bool, false, slice_index, if◌then◌else◌}
use Rattle.ckpt_types.specs.declared.attributes.CreationAttributes.{CreationAttributes}
use Rattle.cluster_record.specs.declared.entries.Entry.{Entry}
use Rattle.cluster_record.specs.declared.clients.LiveClient.{LiveClient}
use Rattle.cluster_record.specs.Placement.{adds}
use Rattle.cluster_record.specs.RecordState.{RecordState, is_up}

-- the node of a client that is live
abbrev pub node_in : Option LiveClient → Option ℕ
node_in None = None
node_in (Some live) = Some live.node

-- the node of a client that is live, the incarnation in which it became so, and the number of its Initialize call
abbrev pub life_of : Option LiveClient → Option (ℕ × ℕ × ℕ)
life_of None = None
life_of (Some live) = Some (live.node, live.incarnation, live.initialize)

-- the incarnation with which a node is up, and the number of its first call in it
abbrev pub up_as : ℕ → RecordState → Option (ℕ × ℕ)
up_as r R = if is_up r R then Some (slice_index R.up r, slice_index R.first_calls r) else None

-- what a checkpoint that is there declares
abbrev pub declared_in : Option Entry → Option CreationAttributes
declared_in None = None
declared_in (Some e) = Some e.attributes

-- the creation flags of a checkpoint; 0 where it is gone
abbrev pub creation_flags_of : Option Entry → ℕ
creation_flags_of None = 0
creation_flags_of (Some e) = e.attributes.creation_flags

-- an open from this node adds a replica of a checkpoint that is there
abbrev pub adds_in : ℕ → Option Entry → Bool
adds_in opener None = false
adds_in opener (Some e) = adds e.attributes opener e.complete

-- the identity of the checkpoint of a name
abbrev pub identity_in : Option Entry → Option ℕ
identity_in None = None
identity_in (Some e) = Some e.identity

-- the record changed at a checkpoint, where there is one
abbrev pub at_ckpt : Option ℕ → RecordState → (ℕ → RecordState) → RecordState
at_ckpt None R change = R
at_ckpt (Some k) R change = change k
