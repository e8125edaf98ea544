pub mod Printable
pub mod Handed
pub mod Answered
pub mod Sizes
pub mod Rosters
