pub mod Asked
pub mod Program
pub mod Room
pub mod Words
pub mod Exports
