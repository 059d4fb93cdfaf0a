pub mod BestCards
pub mod Races
