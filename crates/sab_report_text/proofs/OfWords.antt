pub mod Measuring
pub mod Pieces
pub mod Stuck
pub mod ChunkTexts
