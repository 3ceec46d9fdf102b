pub mod Cells
pub mod Grid
pub mod Ranks
pub mod Refusals
pub mod Rows
pub mod CellsLemmas
pub mod RanksLemmas
