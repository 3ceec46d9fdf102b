pub mod Known
pub mod Walked
pub mod Right
pub mod Answered
pub mod Few
