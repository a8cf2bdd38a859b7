mod MarkLemmas
mod SliceLemmas
mod PlaceLemmas
pub mod SliceLaws
