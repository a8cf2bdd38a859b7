mod LineLemmas
mod StepLemmas
mod KeptLemmas
mod FileLemmas
mod TextLemmas
pub mod ReplayLaws
