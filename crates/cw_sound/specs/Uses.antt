pub mod Mentions
pub mod Stands
