pub mod Promises
pub mod Running
pub mod Counted
pub mod AnswersTold
pub mod ViewTold
pub mod AtErrors
