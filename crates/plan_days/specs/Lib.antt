pub mod Chase
pub mod Tied
pub mod DayByDay
pub mod Tables
pub mod Turns
pub mod Bytes
