pub mod Check
pub mod Script
