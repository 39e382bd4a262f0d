pub mod Follows
pub mod Growing
pub mod Playable
pub mod Puts
