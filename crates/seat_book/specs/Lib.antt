pub mod Places
pub mod Players
pub mod Counts
pub mod Tables
pub mod Seatings
pub mod Kept
