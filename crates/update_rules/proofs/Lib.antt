pub mod FreeIdentifier
pub mod OneElement
pub mod PresentLemmas
pub mod Singles
pub mod Sizes
pub mod ToldLemmas
pub mod WriteLemmas
pub mod RuleRows
