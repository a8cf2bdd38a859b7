pub mod NumeralLemmas
pub mod TextLemmas
pub mod ExternLemmas
pub mod GrammarLemmas
