pub mod Insert
pub mod Insertion
pub mod Kept
pub mod Own
