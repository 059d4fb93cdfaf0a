pub mod First
pub mod Fronts
pub mod Statuses
