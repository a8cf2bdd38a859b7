mod DigitLemmas
mod PartLemmas
