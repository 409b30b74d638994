pub mod Consuming
pub mod ReplaySteps
pub mod Equality
