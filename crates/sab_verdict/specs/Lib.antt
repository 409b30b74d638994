pub mod Events
pub mod Plain
pub mod Json
pub mod ReadsBack
pub mod Verdict
pub mod Sides
