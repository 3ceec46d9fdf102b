mod Stood
pub mod Filled
mod Reached
mod Played
mod Ran
mod Unique
