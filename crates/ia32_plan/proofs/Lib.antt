pub mod ToldLemmas
pub mod OperandLemmas
pub mod RowLemmas
pub mod ReadLemmas
pub mod StateLaws
pub mod WordLaws
