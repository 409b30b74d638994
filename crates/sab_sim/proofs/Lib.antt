pub mod ChangedLists
pub mod SeatedLine
pub mod OwnMoves
pub mod LineMoves
pub mod CallActs
mod Equality
pub mod OneMoveMore
pub mod KeptFits
pub mod OnlyRun
pub mod OnlyEntry
pub mod OnlyReport
pub mod PlaceLine
pub mod WokenLine
pub mod Fronts
