pub mod RowLemmas
pub mod SignLemmas
pub mod CompareLemmas
pub mod RefineLemmas
