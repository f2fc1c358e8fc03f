pub mod Names
pub mod Formats
pub mod Spelled
pub mod Appending
