pub mod Growing
pub mod Filling
pub mod Blank
pub mod Shapes
pub mod Lengths
pub mod Endings
pub mod Sizes
pub mod Ways
pub mod Reaching
pub mod Backward
pub mod Within
mod Orders
