pub mod Putting
pub mod EvenDoors
pub mod Fronts
pub mod Statuses
