pub mod Limits
pub mod Handed
pub mod Told
pub mod Promise
pub mod Runs
