pub mod Alternatives
pub mod Elems
