mod UnderWay
pub mod Equality
mod Looking
