pub mod Judged
pub mod RivalOfArrays
