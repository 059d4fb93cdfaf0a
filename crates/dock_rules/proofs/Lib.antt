pub mod Tables
pub mod JournalTales
pub mod Coming
pub mod Settling
pub mod Opened
pub mod Rooms
pub mod Keeping
pub mod Drawing
