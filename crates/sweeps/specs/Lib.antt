pub mod Meaning
pub mod Sweeps
pub mod Kept
pub mod Toy
