pub mod Counts
pub mod Lines
pub mod Names
pub mod Walk
pub mod Saying
