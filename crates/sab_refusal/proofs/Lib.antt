pub mod Starts
pub mod Equality
pub mod OfSyntax
