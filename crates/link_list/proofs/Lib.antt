pub mod Entered
pub mod Loaded
