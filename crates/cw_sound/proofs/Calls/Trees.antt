pub mod Parts
pub mod Nodes
pub mod Rules
pub mod Conditions
pub mod Arguments
pub mod Primaries
pub mod Trees
