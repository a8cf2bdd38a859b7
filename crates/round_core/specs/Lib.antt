pub mod Event
pub mod Flags
pub mod Laws
pub mod Protocol
pub mod State
pub mod Word
