pub mod Lawful
pub mod Degree
pub mod Within
pub mod Walk
pub mod Append
pub mod TopBlocking
