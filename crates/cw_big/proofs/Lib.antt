pub mod Assembled
mod Lengths
