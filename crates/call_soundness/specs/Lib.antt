pub mod Maps
pub mod Calls
pub mod Externs
pub mod Laws
