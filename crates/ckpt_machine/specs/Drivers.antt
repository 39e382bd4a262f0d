-- What drives a call that is in hand.
use Rattle.std.specs.Prelude.{Bool, Option, Some, None}
use Rattle.cluster_record.specs.DueActive.{ActiveState}
use Rattle.cluster_record.specs.DueCopy.{CopyState}
use Rattle.cluster_record.specs.DueOnce.{OneStep}
use Rattle.cluster_record.specs.DueOpen.{OpenState}
use Rattle.cluster_record.specs.DueSync.{SyncState}
use Rattle.cluster_record.specs.DueUpdate.{UpdateState}
use Rattle.cluster_record.specs.declared.copying.Copying.{Copying}

-- a call of one step of the record, an open, an update on all replicas, a call to the active, one that brings what the active has to other replicas, and
-- the copying to a node that has come back
pub data Driver : Type 0 where
  Once : OneStep → Driver
  Open : OpenState → Driver
  Update : UpdateState → Driver
  Active : ActiveState → Driver
  Sync : SyncState → Driver
  Copy : CopyState → Driver

-- what the tables of a client have a free place for
pub record Rooms : Type 0 where
  pub handles : Bool
  pub iterations : Bool

-- the update of a copying is on the checkpoint that it is at, where it is at one
abbrev pub staging_at : Option Copying → UpdateState → Option UpdateState
staging_at None u = None
staging_at (Some at) u = Some u

-- the update on all replicas that a call does, if it does one: a copying does one that changes nothing
abbrev pub update_in : Driver → Option UpdateState
update_in (Update u) = Some u
update_in (Copy c) = staging_at c.copying c.staging
update_in driver = None
