pub mod Slots
pub mod Calls
pub mod Lists
pub mod Numbers
