pub mod Fitting
pub mod Readers
pub mod Shapes
pub mod Spelling
pub mod Table
