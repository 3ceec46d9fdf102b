pub mod Pairs
pub mod Cells
pub mod Rows
pub mod Same
