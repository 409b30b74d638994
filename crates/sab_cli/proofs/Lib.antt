pub mod OfCommand
pub mod OfExit
pub mod OfRun
