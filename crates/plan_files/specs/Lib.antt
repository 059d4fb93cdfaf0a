pub mod FileValues
pub mod Limits
pub mod PlanFiles
pub mod PlanLines
pub mod SessionWords
pub mod Steps
pub mod Wholes
pub mod Words
