pub mod Things
pub mod Families
