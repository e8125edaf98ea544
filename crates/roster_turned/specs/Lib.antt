pub mod Blocks
pub mod Turning
