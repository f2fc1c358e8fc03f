pub mod Twice
pub mod Said
pub mod Linked
