pub mod Computed
pub mod Operands
pub mod Words
pub mod Flags
pub mod Results
pub mod Runs
