pub mod LowRanks
pub mod Lows
