mod DigitLemmas
mod ReadLemmas
mod FilledLemmas
