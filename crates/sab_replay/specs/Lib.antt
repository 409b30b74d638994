pub mod Events
pub mod Explain
pub mod Faults
pub mod KeptScript
pub mod Report
pub mod ScriptRunner
