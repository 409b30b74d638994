pub mod OnlyAct
pub mod LineAgents
pub mod Woken
