pub mod Told
pub mod Kinds
pub mod Turns
pub mod Stacks
pub mod Found
