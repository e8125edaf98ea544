pub mod Tight
pub mod Nexts
