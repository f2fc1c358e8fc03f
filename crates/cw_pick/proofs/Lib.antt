pub mod Bools
pub mod Closing
pub mod Indexing
pub mod Least
pub mod Members
pub mod Numbers
pub mod Steps
pub mod Unique
