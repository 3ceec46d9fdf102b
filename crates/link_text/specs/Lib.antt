pub mod Fields
pub mod Numerals
pub mod Answers
pub mod Left
pub mod Steps
