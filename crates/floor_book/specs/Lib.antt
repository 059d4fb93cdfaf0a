pub mod Busts
pub mod Fields
pub mod Moves
pub mod Pay
pub mod Seats
pub mod Tables
