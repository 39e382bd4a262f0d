pub mod MoveLemmas
pub mod TableLemmas
pub mod NameRows
