pub mod AfterChange
pub mod Changes
