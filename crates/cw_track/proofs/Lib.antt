pub mod Paths
pub mod Simulations
pub mod Composition
pub mod Budgets
pub mod Clocks
pub mod Watching
pub mod Owing
