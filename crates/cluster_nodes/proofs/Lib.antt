pub mod Numbered
pub mod FailedNumbered
