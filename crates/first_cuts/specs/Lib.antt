pub mod Constants
pub mod FirstCuts
pub mod Taking
