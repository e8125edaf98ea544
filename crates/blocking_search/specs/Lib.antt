pub mod Blocking
pub mod Search
pub mod TopSearch
pub mod Wanted
