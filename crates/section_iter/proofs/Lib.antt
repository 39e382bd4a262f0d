pub mod ChosenLemmas
pub mod GivenLemmas
pub mod IdsLemmas
pub mod IterationRows
