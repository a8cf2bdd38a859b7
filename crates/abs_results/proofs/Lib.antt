pub mod FlagLemmas
