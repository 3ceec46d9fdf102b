pub mod GridRows
pub mod Pairs
pub mod Ranks
pub mod Moves
pub mod Pairing
pub mod Refusals
pub mod Edits
pub mod RowEdits
