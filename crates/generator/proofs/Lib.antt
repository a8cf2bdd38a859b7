pub mod ItemLemmas
pub mod FileLaws
