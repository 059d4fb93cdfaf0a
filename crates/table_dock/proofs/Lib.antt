pub mod CalledTimes
pub mod OwnEntries
pub mod Between
