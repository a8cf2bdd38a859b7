pub mod RangeLemmas
pub mod ArgumentLemmas
pub mod StepLemmas
