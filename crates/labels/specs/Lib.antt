pub mod Labels
pub mod Theorems
