pub mod Grammar
pub mod Reading
pub mod Values
pub mod Tasks
pub mod Said
