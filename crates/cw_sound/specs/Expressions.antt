pub mod Gathered
pub mod Levels
pub mod Regular
pub mod Readings
