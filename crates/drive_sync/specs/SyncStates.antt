-- What the driver of a synchronisation or of the setting of an active keeps, as its fields have it.
use Rattle.cluster_record.specs.DueSync.{SyncState}
use Rattle.drive_sync.specs.declared.sync_call.SyncCall.TheInside as syncing

-- such a call as contracts see it
abbrev pub sync_state : syncing.Inside → SyncState
sync_state s = record { call = s.call; ckpt = s.ckpt; kind = s.kind; pulled = s.pulled; served = s.served }
