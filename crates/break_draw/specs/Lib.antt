pub mod Generator
pub mod Draws
pub mod Counting
