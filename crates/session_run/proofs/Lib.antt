pub mod Following
pub mod Fronts
pub mod Playable
pub mod Putting
