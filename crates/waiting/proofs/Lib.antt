pub mod Answers
mod Waits
mod Changes
pub mod Rooms
mod Sooner
