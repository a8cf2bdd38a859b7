pub mod FlowGraph
pub mod Marked
pub mod Rows
pub mod Walks
