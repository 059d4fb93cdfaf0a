pub mod Added
pub mod Pieces
pub mod Tables
pub mod Journals
pub mod Points
pub mod Kept
pub mod Whole
