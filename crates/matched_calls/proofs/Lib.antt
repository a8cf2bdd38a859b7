pub mod PhaseLemmas
pub mod SummaryLemmas
pub mod ExtendLemmas
pub mod SearchLemmas
pub mod PlaceLemmas
pub mod GraphLemmas
pub mod SliceLemmas
pub mod LawLemmas
