pub mod Called
pub mod Closed
pub mod Kept
pub mod OneStatus
