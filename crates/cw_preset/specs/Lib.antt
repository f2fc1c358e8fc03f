pub mod Strings
pub mod Lists
pub mod Held
