pub mod Orders
pub mod Places
pub mod Prizes
pub mod Standings
pub mod TiedAtHead
pub mod Ties
