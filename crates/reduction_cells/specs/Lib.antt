pub mod Cells
pub mod Painted
pub mod CellLaws
pub mod Local
