pub mod Equality
pub mod EntryEquality
pub mod StandingEquality
