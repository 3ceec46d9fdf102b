pub mod Classes
pub mod Networks
pub mod Paths
pub mod Tables
pub mod Theorems
pub mod Words
