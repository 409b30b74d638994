pub mod Members
pub mod CallData
pub mod FactData
pub mod StandingData
pub mod Lines
pub mod SafeNumbers
pub mod ReadsBack
