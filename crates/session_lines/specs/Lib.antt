pub mod Limits
pub mod Hellos
pub mod Requests
pub mod Meanings
pub mod Replies
