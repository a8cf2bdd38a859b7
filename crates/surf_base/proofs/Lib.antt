pub mod Appending
mod FileLists
pub mod HexDigits
pub mod TextLines
