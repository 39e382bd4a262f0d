pub mod Accepted
pub mod AttributeLaws
mod Constants
pub mod EndsLemmas
pub mod Expirations
pub mod FirstSections
pub mod Fitting
pub mod Lists
pub mod Numbering
pub mod Options
pub mod Padding
pub mod Placing
pub mod Presence
pub mod Pushing
pub mod Rows
mod TypeRows
