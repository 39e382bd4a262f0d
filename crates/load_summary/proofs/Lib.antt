pub mod Codes
mod Counted
mod Rows
