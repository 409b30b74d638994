pub mod Events
pub mod Reading
pub mod Dependence
pub mod Acting
