pub mod Fitting
pub mod Placement
pub mod Placing
pub mod Segments
pub mod Sweep
