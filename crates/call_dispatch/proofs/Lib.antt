pub mod CallbackLaws
pub mod FoundLaws
pub mod Rows
