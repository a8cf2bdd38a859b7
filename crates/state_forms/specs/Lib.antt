pub mod Kept
pub mod Images
pub mod Formed
pub mod Laws
