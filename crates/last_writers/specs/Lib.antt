pub mod Writers
pub mod Cuts
