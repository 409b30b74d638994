pub mod Shape
pub mod Pieces
pub mod Moves
pub mod Ends
pub mod Frame
pub mod Picture
pub mod Xml
