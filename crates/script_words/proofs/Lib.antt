pub mod Computing
mod Ends
pub mod Fits
pub mod Numbers
mod Pairs
pub mod Places
pub mod Plain
pub mod Said
mod Spelled
mod WordRows
