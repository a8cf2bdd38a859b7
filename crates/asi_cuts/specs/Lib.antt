pub mod Cuts
pub mod Closed
pub mod Adding
pub mod Following
pub mod Listing
