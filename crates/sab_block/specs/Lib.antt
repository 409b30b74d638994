pub mod Kind
pub mod Thrown
pub mod Check
pub mod Operand
pub mod View
pub mod Block
pub mod RmwOp
pub mod Access
