pub mod Asked
pub mod Questions
pub mod Replies
