pub mod FixedLimits
pub mod Wagers
