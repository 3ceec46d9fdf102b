pub mod Measures
pub mod Delay
pub mod HopsWidth
pub mod WidthFirst
pub mod Delays
pub mod HopsWidths
