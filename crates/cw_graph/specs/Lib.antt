pub mod Chains
pub mod Reports
pub mod Rows
pub mod Levels
pub mod Ranking
pub mod Reaching
pub mod Choosing
