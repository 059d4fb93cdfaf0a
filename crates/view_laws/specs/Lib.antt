pub mod Apart
pub mod OwnLines
pub mod OtherDecks
pub mod Folded
pub mod CardsTold
