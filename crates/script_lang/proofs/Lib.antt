pub mod Again
pub mod Built
mod Fitting
mod LineExamples
mod Marking
mod Plain
mod ScriptRows
mod Steps
mod Texts
