pub mod TwoPlans
