pub mod ReadFault
pub mod Excerpt
pub mod Location
pub mod Reason
pub mod Located
pub mod Refusal
pub mod Syntax
