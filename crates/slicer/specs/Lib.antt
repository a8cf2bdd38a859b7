pub mod Slicer
pub mod Search
