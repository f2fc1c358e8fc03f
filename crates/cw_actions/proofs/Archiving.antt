pub mod Cases
pub mod Steps
pub mod Parts
pub mod Linked
pub mod Archived
