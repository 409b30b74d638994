pub mod Moves
pub mod Agenda
pub mod Race
pub mod RaceFault
pub mod Mixing
