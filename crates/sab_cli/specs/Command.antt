pub mod Asked
pub mod CommandLine
pub mod Job
pub mod Source
