pub mod Ids
pub mod Iteration
pub mod KeptIds
pub mod Next
pub mod Room
