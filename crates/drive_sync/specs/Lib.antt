pub mod SyncStates
