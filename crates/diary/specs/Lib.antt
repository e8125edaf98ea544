pub mod FlatDiary
pub mod LentSteps
