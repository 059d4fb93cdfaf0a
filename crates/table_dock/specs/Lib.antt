pub mod Kept
pub mod Docks
pub mod Telling
