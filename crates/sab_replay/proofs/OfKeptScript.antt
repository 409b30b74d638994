pub mod RecordedMoves
pub mod LineFeed
pub mod NoFloat
pub mod PutMember
pub mod RescheduledTree
pub mod KeptRuns
