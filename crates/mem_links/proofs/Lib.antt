pub mod SearchedLines
pub mod PassedOver
