mod CoreLemmas
pub mod FitLemmas
pub mod WordLemmas
pub mod StepLemmas
mod StartLemmas
mod BlockLemmas
mod PerformLemmas
mod MachineLemmas
mod SureLemmas
mod SureRowLemmas
mod SureFlagLemmas
mod TouchLemmas
pub mod SpanLemmas
mod EntryLemmas
pub mod PlaceLemmas
mod ToldLemmas
