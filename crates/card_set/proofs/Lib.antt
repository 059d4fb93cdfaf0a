pub mod CardLaws
pub mod DeckLaws
pub mod TextLaws
pub mod Computed
pub mod LetterTables
pub mod RowReading
pub mod SeenCards
pub mod Steps
