pub mod Halting
pub mod EmptySeats
pub mod Balance
pub mod Filling
pub mod Moves
