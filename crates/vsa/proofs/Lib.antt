pub mod TableLemmas
pub mod SameLemmas
pub mod LookLemmas
pub mod ToppedLemmas
pub mod LentLemmas
pub mod ClosedLemmas
pub mod NoteLemmas
pub mod CleanLemmas
