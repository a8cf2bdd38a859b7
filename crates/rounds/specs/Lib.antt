pub mod Next
pub mod Same
pub mod Rounds
pub mod Tags
