mod Rises
pub mod Bounded
