pub mod ToolFault
pub mod Conversions
