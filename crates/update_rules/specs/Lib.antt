pub mod Present
pub mod Told
pub mod Writes
