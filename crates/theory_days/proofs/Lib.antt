pub mod Sheets
pub mod Spread
