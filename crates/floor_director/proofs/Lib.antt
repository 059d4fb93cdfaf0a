pub mod DrawnDecks
pub mod SimulatedActs
pub mod Passive
pub mod FirstTables
pub mod NextOrders
pub mod OwedChecks
pub mod Spreading
pub mod OneOrder
