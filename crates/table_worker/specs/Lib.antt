pub mod Visits
pub mod Ties
pub mod Alone
pub mod Stages
pub mod Kept
pub mod Workers
pub mod Turns
