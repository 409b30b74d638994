pub mod Ended
pub mod Input
pub mod Racing
pub mod Replay
