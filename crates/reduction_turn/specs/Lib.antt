pub mod Onward
pub mod AfterTurn
