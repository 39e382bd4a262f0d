mod Canonical
pub mod Groups
pub mod Rows
mod Saying
pub mod Shaped
mod Texts
pub mod Told
mod Writing
