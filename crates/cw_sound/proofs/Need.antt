pub mod Nodes
pub mod Rules
pub mod Calls
pub mod Layers
pub mod Trees
pub mod Texts
pub mod Units
