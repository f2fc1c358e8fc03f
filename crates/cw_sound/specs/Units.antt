pub mod TreeFits
pub mod PartsStand
