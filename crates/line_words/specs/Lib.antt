pub mod Fields
pub mod Limits
pub mod Rows
pub mod Words
pub mod Written
