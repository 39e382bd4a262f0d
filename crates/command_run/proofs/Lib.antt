mod Asked
mod Loaded
pub mod Called
pub mod Played
pub mod Written
