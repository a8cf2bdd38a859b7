pub mod Gcd
pub mod Interval
pub mod Concrete
pub mod Operations
pub mod Rows
pub mod Order
