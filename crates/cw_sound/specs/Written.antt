pub mod Counts
pub mod Identified
