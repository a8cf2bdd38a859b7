pub mod ListLaws
pub mod OptionLaws
pub mod RangeLaws
pub mod TruthLaws
