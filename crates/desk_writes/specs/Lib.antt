pub mod Seasons
pub mod Sheets
pub mod Writing
