pub mod LeastTokens
pub mod Texts
pub mod TreeTokens
pub mod SetLabels
