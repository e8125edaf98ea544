pub mod Swaps
pub mod Ways
