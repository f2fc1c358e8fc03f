pub mod Following
pub mod Texts
pub mod Past
pub mod Whole
pub mod Once
pub mod Told
pub mod Fronts
