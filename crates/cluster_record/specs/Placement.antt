-- On which nodes a checkpoint has its replicas, and which of them is the active.
use Rattle.std.specs.Prelude.{ℕ, List, Bool, ◌&&◌, ◌==◌, replicate, slice_index, slice_set, if◌then◌else◌}
use Rattle.ckpt_types.specs.declared.attributes.CreationAttributes.{CreationAttributes}
pub use Rattle.ckpt_types.specs.Attributes.{is_all}
use Rattle.ckpt_types.specs.Attributes.{has_flag}
use Rattle.ckpt_types.specs.Limits.{nodes_max, checkpoint_collocated}

-- its replicas are on the nodes of those that open it
abbrev pub is_collocated : CreationAttributes → Bool
is_collocated a = has_flag a.creation_flags checkpoint_collocated

-- by node, the incarnation of this one, and 0 for the others
abbrev pub alone_on : ℕ → List ℕ → List ℕ
alone_on r up = slice_set (replicate nodes_max 0) r (slice_index up r)

-- by node, the incarnation in which a checkpoint is made there, or 0: it is made on all nodes that are up, a collocated one on that of its opener
abbrev pub targets : CreationAttributes → ℕ → List ℕ → List ℕ
targets a opener up = if is_collocated a then alone_on opener up else up

-- an open from this node adds a replica there: the checkpoint is collocated, and not complete on it
abbrev pub adds : CreationAttributes → ℕ → List ℕ → Bool
adds a opener complete = is_collocated a && (slice_index complete opener == 0)
