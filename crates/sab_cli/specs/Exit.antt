pub mod Status
pub mod Outcome
pub mod FaultLine
pub mod Complaint
pub mod Ending
