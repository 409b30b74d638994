pub mod Racing
pub mod Counting
pub mod Texts
pub mod RaceLines
pub mod TreesRead
pub mod LinesRead
