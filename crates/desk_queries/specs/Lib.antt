pub mod Calls
pub mod Judging
pub mod Comparing
pub mod Holding
