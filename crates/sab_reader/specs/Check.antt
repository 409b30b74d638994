pub mod Cause
pub mod Text
pub mod Foreign
pub mod Checked
