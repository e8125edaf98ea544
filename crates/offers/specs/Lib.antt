pub mod NextEntry
pub mod Standing
pub mod Turned
pub mod TurnStands
pub mod KeptEdges
pub mod Running
