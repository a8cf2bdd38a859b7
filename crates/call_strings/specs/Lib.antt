pub mod NodeKeys
pub mod Nodes
