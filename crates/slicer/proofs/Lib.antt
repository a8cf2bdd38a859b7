pub mod QueueLemmas
pub mod GrowLemmas
pub mod FollowLemmas
pub mod ListLemmas
pub mod SliceLaws
