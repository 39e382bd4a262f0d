pub mod Client
pub mod ClientState
pub mod Kept
pub mod Numbered
