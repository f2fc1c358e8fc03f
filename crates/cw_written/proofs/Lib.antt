mod Chains
mod Expand
mod Alike
pub mod Rules
pub mod Fronts
pub mod Labels
pub mod SimpleLabels
pub mod Elems
pub mod Places
