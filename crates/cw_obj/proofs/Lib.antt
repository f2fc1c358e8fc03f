pub mod Appending
pub mod Joining
pub mod Migrated
pub mod Telling
pub mod Written
