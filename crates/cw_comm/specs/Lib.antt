pub mod Agreement
pub mod Clashes
pub mod Numbered
pub mod Searching
pub mod Tables
