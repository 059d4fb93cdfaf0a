pub mod Asked
pub mod Opening
pub mod Ends
pub mod Docks
