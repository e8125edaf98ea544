pub mod Best
pub mod Cheapest
pub mod Filled
pub mod Links
pub mod Terminals
pub mod Visits
pub mod Within
