pub mod MemberLemmas
pub mod GcdLemmas
pub mod SpacedLemmas
pub mod SumLemmas
pub mod JoinLemmas
pub mod BoundLemmas
pub mod NumberLemmas
