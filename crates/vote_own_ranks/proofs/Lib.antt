pub mod Filling
pub mod Inserting
