pub mod Puts
pub mod Registers
pub mod Views
pub mod Reads
pub mod Writes
pub mod Same
pub mod Ranges
pub mod Laws
