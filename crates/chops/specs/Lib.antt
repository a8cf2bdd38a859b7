pub mod Answers
pub mod Chops
pub mod Paths
pub mod Masks
pub mod Following
pub mod Pairs
pub mod Counts
pub mod Hops
