pub mod Limits
pub mod Endings
pub mod Commands
