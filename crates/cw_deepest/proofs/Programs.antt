pub mod Holding
pub mod Typing
pub mod Expanding
pub mod Continuing
pub mod Chaining
pub mod Calling
pub mod Jumping
pub mod Stepping
