pub mod Texts
pub mod Runs
pub mod WellFormed
pub mod Names
