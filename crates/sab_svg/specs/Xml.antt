pub mod Xml
pub mod WellFormed
