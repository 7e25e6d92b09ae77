pub mod PassState
pub mod Acts
pub mod Answers
pub mod Passes
