pub mod FreeSeats
pub mod Movers
pub mod Extremes
pub mod Balances
pub mod Converse
