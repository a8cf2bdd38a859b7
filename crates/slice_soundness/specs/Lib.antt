pub mod Nodes
pub mod Maps
pub mod Premises
pub mod Tables
pub mod Located
pub mod Arrows
pub mod Laws
pub mod Example
