pub mod Listings
pub mod Pages
pub mod Rows
pub mod Settled
pub mod Surveys
