pub mod SearchView
pub mod TwoThresholds
