pub mod OfEvents
pub mod OfExplain
pub mod OfFaults
pub mod OfKeptScript
pub mod OfReport
pub mod OfScriptRunner
