pub mod BridgeLaws
pub mod RoundLaws
pub mod ArrowLaws
