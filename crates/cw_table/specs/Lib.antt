pub mod Rows
pub mod Earliest
