pub mod LastWrites
pub mod Writers
pub mod Choices
pub mod Acts
pub mod Answers
pub mod Steps
pub mod Traces
