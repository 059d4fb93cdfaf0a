pub mod ReplyLengths
