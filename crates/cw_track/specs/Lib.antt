pub mod Machine
pub mod Tracking
pub mod Watching
pub mod Clocks
