pub mod ComparisonNumbers
pub mod Numbers
