pub mod ControlWalks
pub mod Floods
pub mod Plain
