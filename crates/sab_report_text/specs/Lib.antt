pub mod JsonLines
pub mod Text
pub mod Words
