pub mod Contents
pub mod States
pub mod Written
pub mod Names
pub mod Successors
pub mod Externs
