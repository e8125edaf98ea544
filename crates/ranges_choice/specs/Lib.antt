pub mod Cells
pub mod Rows
pub mod Choosing
pub mod Reranked
pub mod Chosen
