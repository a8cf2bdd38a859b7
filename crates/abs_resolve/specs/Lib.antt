pub mod Owned
pub mod Forms
pub mod Search
