pub mod OpenBy
pub mod Each
pub mod Tellers
pub mod Inside
