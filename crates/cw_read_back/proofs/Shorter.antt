pub mod Lengths
pub mod Held
pub mod Built
pub mod Expressions
pub mod Items
pub mod Statements
pub mod Texts
