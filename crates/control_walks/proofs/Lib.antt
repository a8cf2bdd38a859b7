pub mod FloodLemmas
pub mod SplitLemmas
