pub mod DepGraph
pub mod Edges
pub mod Plain
