pub mod GraphLaws
pub mod MarkedLaws
pub mod BitLemmas
pub mod RowLemmas
pub mod RowLaws
pub mod WalkLaws
pub mod WalkLemmas
pub mod RisingLemmas
