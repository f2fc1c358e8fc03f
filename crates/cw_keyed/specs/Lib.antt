pub mod Spelling
pub mod Numbered
