pub mod Spelled
pub mod Meanings
