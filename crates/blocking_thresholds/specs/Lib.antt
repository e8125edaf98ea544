pub mod Threshold
pub mod PlanList
