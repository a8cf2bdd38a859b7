pub mod Opens
pub mod Steps
pub mod Machines
pub mod Touches
