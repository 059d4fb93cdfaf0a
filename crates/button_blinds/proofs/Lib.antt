pub mod PlayersBetween
pub mod SeatSetLaws
pub mod WhoPlays
pub mod Distances
pub mod BigPlays
pub mod NextMarksLaws
