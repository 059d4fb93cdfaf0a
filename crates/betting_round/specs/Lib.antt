pub mod Acts
pub mod ActChecks
pub mod Limits
pub mod Running
pub mod StreetActs
pub mod WhoIsDue
