pub mod BuiltScripts
pub mod Faults
pub mod FewWords
pub mod Grammar
pub mod Plain
pub mod Scripts
pub mod Spelling
