pub mod Repeating
pub mod Spelling
