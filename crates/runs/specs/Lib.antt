pub mod Plain
pub mod Runs
pub mod Work
pub mod Theorems
