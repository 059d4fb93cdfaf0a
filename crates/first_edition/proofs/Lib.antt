pub mod Rows
pub mod Same
pub mod SameHands
pub mod States
