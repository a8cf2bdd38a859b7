pub mod Merges
pub mod Lists
pub mod Changes
