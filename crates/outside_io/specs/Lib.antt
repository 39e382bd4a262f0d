pub mod Causes
pub mod Ends
pub mod MemSource
pub mod MemSink
