pub mod Terms
pub mod Accessed
pub mod Steps
pub mod Laws
