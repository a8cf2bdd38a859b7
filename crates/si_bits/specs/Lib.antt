pub mod Concrete
pub mod Operations
