pub mod Truth
pub mod Families
pub mod Entries
