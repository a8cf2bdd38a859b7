pub mod Extents
pub mod Cells
pub mod Halves
