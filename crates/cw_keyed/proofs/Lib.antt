pub mod Layers
pub mod Alone
pub mod Positions
pub mod Numbers
