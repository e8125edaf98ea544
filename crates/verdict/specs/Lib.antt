pub mod Weighing
pub mod RivalWritten
