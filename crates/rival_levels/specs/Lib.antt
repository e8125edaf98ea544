pub mod Firsts
pub mod Layers
pub mod Levels
pub mod Prices
pub mod Walks
