pub mod Raw
pub mod Walks
pub mod Columns
pub mod Routes
pub mod Theorems
