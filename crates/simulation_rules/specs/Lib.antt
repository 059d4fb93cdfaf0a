pub mod Limits
pub mod Entrants
pub mod Places
pub mod Steps
pub mod Runs
pub mod Course
pub mod Effort
pub mod Left
