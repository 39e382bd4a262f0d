-- On which replicas an update is before it is answered, and in how many steps, by what the checkpoint declares.
use Rattle.std.specs.Prelude.{Option, Some, None, Bool, false, ◌==◌, ◌||◌, ◌+◌}
use Rattle.ckpt_types.specs.declared.attributes.CreationAttributes.{CreationAttributes}
use Rattle.ckpt_types.specs.declared.update.Update.{Update}
use Rattle.ckpt_types.specs.declared.update.Update.TheVariants as updates
use Rattle.ckpt_types.specs.Limits.{wr_active_replica_weak, checkpoint_collocated}
pub use Rattle.cluster_record.specs.Placement.{is_all}

-- a write of several elements may be cut short between two of them
abbrev pub is_weak : CreationAttributes → Bool
is_weak a = a.creation_flags == wr_active_replica_weak || a.creation_flags == wr_active_replica_weak + checkpoint_collocated

-- an update is done element by element, of a checkpoint that is weak or not: a write is where it is
abbrev pub is_by_element : Bool → Update → Bool
is_by_element weak (updates.Write elements) = weak
is_by_element weak update = false

-- what holds of the attributes of a checkpoint; not where it is gone
abbrev pub if_declared : (CreationAttributes → Bool) → Option CreationAttributes → Bool
if_declared is None = false
if_declared is (Some a) = is a
