pub mod Counts
pub mod Layers
pub mod Good
pub mod Trees
pub mod Rules
pub mod Texts
