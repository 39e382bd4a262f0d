mod Decimals
mod Encoded
pub mod EachText
mod LineRows
mod CallbackRows
