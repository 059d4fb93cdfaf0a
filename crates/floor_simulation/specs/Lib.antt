pub mod Midst
pub mod Told
