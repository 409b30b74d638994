pub mod Ends
pub mod Spelled
pub mod Replies
