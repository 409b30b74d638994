pub mod Flushed
pub mod Given
pub mod Searched
pub mod Traced
