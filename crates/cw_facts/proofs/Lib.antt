pub mod Layers
mod Adding
mod Stating
