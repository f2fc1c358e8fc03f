pub mod Identified
pub mod IdentifiedTexts
pub mod Counts
pub mod Lists
pub mod Based
pub mod Declared
pub mod Called
