pub mod Node
pub mod Plan
pub mod Side
pub mod Votable
