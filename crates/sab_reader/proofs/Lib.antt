pub mod OfCheck
pub mod OfScript
