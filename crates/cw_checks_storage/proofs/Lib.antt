pub mod Computed
pub mod Plain
