pub mod ChangeSteps
pub mod Changing
pub mod Storing
pub mod StoringSteps
