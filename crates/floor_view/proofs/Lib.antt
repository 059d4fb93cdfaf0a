pub mod PlayedAt
pub mod Taken
pub mod Begun
pub mod Acted
pub mod AtPlaces
pub mod Settled
pub mod Listed
pub mod Looked
