pub mod Offers
pub mod Ends
pub mod States
pub mod Memory
pub mod Settled
