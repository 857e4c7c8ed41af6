pub mod Answers
pub mod Unique
pub mod Examples
