pub mod Placing
pub mod Showing
pub mod Passing
