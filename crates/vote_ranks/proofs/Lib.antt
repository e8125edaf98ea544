pub mod TurnSums
