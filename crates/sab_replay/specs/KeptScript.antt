pub mod RecordedMoves
pub mod Canonical
pub mod Rescheduled
pub mod Keeping
