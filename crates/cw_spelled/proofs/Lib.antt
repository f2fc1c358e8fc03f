mod Items
pub mod Carried
mod Expanded
