pub mod Answers
pub mod ReadInvariant
pub mod Planned
