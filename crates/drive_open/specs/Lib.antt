pub mod OpenStates
