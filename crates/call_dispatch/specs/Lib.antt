pub mod Pending
pub mod PendingCalls
