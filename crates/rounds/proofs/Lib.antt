pub mod OrderedLemmas
pub mod OneLemmas
pub mod EndLemmas
pub mod RoundLemmas
pub mod SweepSizes
pub mod SizeLemmas
pub mod RoundTests
