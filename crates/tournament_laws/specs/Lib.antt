pub mod Accepted
pub mod Orders
pub mod Stacks
pub mod Named
