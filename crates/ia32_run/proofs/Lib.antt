pub mod DependenceLemmas
pub mod WriterLemmas
pub mod KnownLemmas
pub mod TakesLemmas
pub mod ActLemmas
mod AnswerLemmas
mod ExternLemmas
mod SettledLemmas
mod HeapLemmas
mod PlainLemmas
mod AllocLemmas
mod StopLemmas
mod FillLemmas
mod RangeLemmas
pub mod AdvanceLemmas
mod WordLemmas
pub mod RisingLists
pub mod TraceLemmas
pub mod OneTraceLemmas
pub mod FaultLemmas
