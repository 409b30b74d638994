pub mod OfJsonLines
pub mod OfText
pub mod OfWords
