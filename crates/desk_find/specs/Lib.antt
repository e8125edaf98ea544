pub mod Lengths
pub mod Outcomes
pub mod Finding
