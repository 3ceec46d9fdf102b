pub mod Lifts
pub mod Linked
pub mod Turned
pub mod Started
pub mod Spans
