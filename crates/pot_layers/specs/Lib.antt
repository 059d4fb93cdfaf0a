pub mod Layers
pub mod PotTests
pub mod Reaches
pub mod Running
pub mod Shares
pub mod Tallies
