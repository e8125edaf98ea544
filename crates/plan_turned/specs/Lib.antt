pub mod Pairs
pub mod Turning
