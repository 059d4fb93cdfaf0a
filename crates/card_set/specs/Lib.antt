pub mod Cards
pub mod Decks
