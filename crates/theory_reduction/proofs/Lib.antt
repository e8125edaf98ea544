pub mod AlternatingPath
pub mod Chains
pub mod Course
pub mod End
pub mod Quotas
pub mod Run
pub mod Steps
