pub mod Falls
pub mod LeastVote
pub mod Questions
pub mod Settled
pub mod Worst
