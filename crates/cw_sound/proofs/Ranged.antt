pub mod Parts
pub mod Nodes
pub mod Trees
pub mod Procedures
pub mod Sizes
pub mod Facts
pub mod Declarations
pub mod Declared
