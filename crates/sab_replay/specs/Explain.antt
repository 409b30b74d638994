pub mod Fact
pub mod Explainer
pub mod Standing
