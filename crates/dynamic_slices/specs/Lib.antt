pub mod Slices
pub mod Marks
pub mod Laws
