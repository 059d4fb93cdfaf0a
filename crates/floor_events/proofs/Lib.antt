pub mod EventLaws
pub mod ActLines
