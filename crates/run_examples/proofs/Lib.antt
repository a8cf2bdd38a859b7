pub mod WalkLemmas
pub mod StartLemmas
pub mod ExampleLemmas
