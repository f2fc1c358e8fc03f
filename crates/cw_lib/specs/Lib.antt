pub mod LibraryFormat
pub mod Reading
pub mod Uniqueness
