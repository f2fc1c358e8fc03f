pub mod Built
pub mod Images
