pub mod Arrays
pub mod Combined
mod DistinctLaws
pub mod Filters
pub mod ListOrder
