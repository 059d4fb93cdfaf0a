pub mod Changes
pub mod Choices
