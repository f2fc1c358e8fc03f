pub mod Preservation
pub mod Statements
