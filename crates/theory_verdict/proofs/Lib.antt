pub mod Cells
pub mod Levels
pub mod LevelsOk
pub mod Rival
pub mod Stop
pub mod Verdict
