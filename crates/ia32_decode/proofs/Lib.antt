pub mod PrefixListLemmas
pub mod RunLemmas
pub mod HonestLemmas
pub mod FrontLemmas
pub mod HonestPartLemmas
pub mod HonestRowLemmas
pub mod HonestGrammarLemmas
pub mod DecodedLemmas
