pub mod UpdateStates
