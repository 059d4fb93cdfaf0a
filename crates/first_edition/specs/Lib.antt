pub mod First
pub mod FirstHands
