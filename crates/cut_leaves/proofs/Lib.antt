pub mod Guards
pub mod Answers
