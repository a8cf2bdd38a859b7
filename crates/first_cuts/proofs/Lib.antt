pub mod TakingLemmas
pub mod ScanLemmas
pub mod RiseLemmas
