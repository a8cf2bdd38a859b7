pub mod PairLemmas
pub mod ListingLemmas
pub mod SpreadLemmas
pub mod PlaceLemmas
pub mod WalkedLemmas
