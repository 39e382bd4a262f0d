pub mod ReplicaLending
