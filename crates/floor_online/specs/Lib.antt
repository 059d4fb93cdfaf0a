pub mod Doors
pub mod Served
pub mod EntryText
