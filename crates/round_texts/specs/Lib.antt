pub mod Regions
pub mod Warnings
pub mod Values
pub mod Locations
pub mod Graph
pub mod Readings
