pub mod Expressions
pub mod Plain
pub mod Trees
pub mod Shorter
pub mod Texts
