pub mod Booked
pub mod Asking
pub mod Few
pub mod Nobody
pub mod PlanEntries
pub mod Carried
pub mod Standing
pub mod Pieces
