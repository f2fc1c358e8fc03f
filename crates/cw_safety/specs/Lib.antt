pub mod Kinds
pub mod WellFormed
pub mod Depth
pub mod Coherent
