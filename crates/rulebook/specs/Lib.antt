pub mod Checks
pub mod Limits
pub mod Pairs
pub mod Search
pub mod Seats
