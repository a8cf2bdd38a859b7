pub mod Cores
pub mod Checks
pub mod Drawn
pub mod Forms
pub mod Reached
pub mod Laws
