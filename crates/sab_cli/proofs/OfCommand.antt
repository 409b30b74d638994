pub mod Added
pub mod Entered
pub mod Rows
pub mod Spelled
pub mod Equality
