pub mod Values
pub mod Moving
pub mod Lists
