pub mod ContentLemmas
pub mod ReturnLemmas
pub mod WarningLemmas
pub mod ControlLemmas
pub mod TargetLemmas
pub mod ExternLemmas
