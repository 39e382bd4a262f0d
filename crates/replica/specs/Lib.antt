pub mod ReplicaView
pub mod Replicas
