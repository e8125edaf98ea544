pub mod Front
pub mod Held
pub mod History
pub mod Open
pub mod PlanLength
pub mod Replies
pub mod State
