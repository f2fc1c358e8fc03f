pub mod Alternatives
pub mod Texts
