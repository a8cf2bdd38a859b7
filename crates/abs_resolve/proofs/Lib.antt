pub mod OwnerLaws
pub mod PartLemmas
pub mod OrderLemmas
pub mod NotedLemmas
pub mod LevelLemmas
pub mod StepLemmas
pub mod SearchLemmas
