pub mod Failure
pub mod Explaining
pub mod Racing
pub mod Running
pub mod Searching
pub mod Tracing
