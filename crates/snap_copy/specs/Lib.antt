pub mod Heads
pub mod SnapView
pub mod Snapshots
