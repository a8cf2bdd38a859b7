pub mod Claims
pub mod Ends
pub mod Joins
pub mod Plays
pub mod Rows
pub mod Rule
pub mod Seats
pub mod View
