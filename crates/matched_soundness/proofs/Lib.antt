pub mod KindLaws
pub mod TurnLaws
pub mod WalkLaws
pub mod MatchLaws
