mod Complete
pub mod Levels
