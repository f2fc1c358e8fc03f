pub mod Expansion
pub mod Premises
pub mod Views
