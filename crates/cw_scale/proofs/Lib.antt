mod Chains
mod Layers
mod Passing
pub mod Telling
pub mod Turns
mod Arms
mod Shapes
