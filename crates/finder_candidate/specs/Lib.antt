pub mod FoundBuffers
pub mod Judging
