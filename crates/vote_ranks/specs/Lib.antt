pub mod RankCases
pub mod Turn
