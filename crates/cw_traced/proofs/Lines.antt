pub mod Starting
pub mod Silent
pub mod Expressions
pub mod Statements
pub mod Units
