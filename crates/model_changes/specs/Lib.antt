pub mod Changes
pub mod ChangeCases
