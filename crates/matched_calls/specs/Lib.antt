pub mod Matched
pub mod Slices
pub mod Phases
pub mod Adding
pub mod Extended
pub mod Summaries
pub mod Searches
pub mod Places
