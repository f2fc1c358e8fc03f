pub mod Names
pub mod Trees
pub mod Statements
pub mod Units
