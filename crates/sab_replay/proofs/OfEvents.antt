pub mod WrittenBytes
pub mod Runs
pub mod Depending
pub mod Reporting
pub mod Fitting
