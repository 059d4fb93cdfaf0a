pub mod DrawnDecks
pub mod SimulatedActs
pub mod Orders
pub mod Owed
pub mod Spread
pub mod Passive
