pub mod Scripts
pub mod Texts
pub mod Faults
