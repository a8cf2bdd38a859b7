pub mod LoopLemmas
pub mod CellLemmas
pub mod LifeLemmas
