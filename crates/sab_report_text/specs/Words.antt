pub mod CallText
pub mod Column
pub mod FactText
pub mod FactFormat
pub mod Explained
