mod Built
mod Lengths
mod Names
mod Rows
mod Spelled
mod Turns
