pub mod Accepted
pub mod Cells
pub mod Decoded
pub mod Arrays
pub mod Loaded
