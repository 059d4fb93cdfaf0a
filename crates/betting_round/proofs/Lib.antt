pub mod ActRefusals
pub mod Acted
mod Closings
pub mod SeatBySeat
pub mod Steps
pub mod Turns
