pub mod Digits
pub mod Appending
pub mod Equality
