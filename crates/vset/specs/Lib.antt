pub mod World
pub mod Values
pub mod Forms
pub mod Operations
pub mod Members
