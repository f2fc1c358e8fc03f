pub mod Layers
pub mod Arguments
