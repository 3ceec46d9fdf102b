pub mod Columns
pub mod Memory
pub mod Numbers
pub mod Words
