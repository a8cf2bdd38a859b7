pub mod Lines
pub mod Replayed
pub mod Steps
pub mod Laws
pub mod Texts
