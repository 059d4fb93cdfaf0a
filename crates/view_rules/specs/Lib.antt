pub mod Shown
pub mod Seen
pub mod Spelling
pub mod Lines
pub mod Entries
pub mod Views
pub mod Agreeing
