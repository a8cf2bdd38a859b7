pub mod Listed
pub mod Part
pub mod Shares
