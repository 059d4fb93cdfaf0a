pub mod Marks
pub mod SeatSets
