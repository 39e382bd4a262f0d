pub mod BegunCalls
pub mod OpenGiving
pub mod SeatLaws
pub mod TellLaws
