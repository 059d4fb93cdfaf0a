pub mod Hands
pub mod Winners
pub mod Awards
