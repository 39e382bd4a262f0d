pub mod ActiveStates
