pub mod Command
pub mod Exit
pub mod Run
