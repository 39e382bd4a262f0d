pub mod WeakWrites
pub mod ReplicaRows
