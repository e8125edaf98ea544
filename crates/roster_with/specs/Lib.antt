pub mod Entering
pub mod Enters
pub mod WithJoiner
