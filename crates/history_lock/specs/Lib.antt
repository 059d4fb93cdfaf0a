pub mod Entries
pub mod Limits
pub mod Views
pub mod Rule
pub mod Steps
pub mod Passes
pub mod Lending
pub mod Holds
