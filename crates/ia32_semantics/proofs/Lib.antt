mod AluRows
mod RowTests
pub mod ReadingLemmas
pub mod EffectLemmas
pub mod StepLemmas
pub mod RunLemmas
pub mod WithinLemmas
pub mod OperandLemmas
pub mod ChangeLemmas
pub mod TableLemmas
pub mod TableRowLemmas
pub mod ShiftTableLemmas
pub mod RowWithinLemmas
pub mod ActLaws
