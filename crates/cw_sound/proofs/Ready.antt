pub mod Lines
pub mod Definitions
pub mod Goals
