pub mod Told
pub mod Depths
