pub mod Arguments
pub mod Ending
pub mod Headline
pub mod Reading
