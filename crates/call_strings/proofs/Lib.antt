pub mod NodeLemmas
pub mod OrderLaws
