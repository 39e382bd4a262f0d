pub mod Fitting
pub mod Reasons
pub mod Spelling
pub mod Words
