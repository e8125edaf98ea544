pub mod AfterStep
pub mod Trace
pub mod Outcome
pub mod RunState
pub mod RunArrows
pub mod Lent
