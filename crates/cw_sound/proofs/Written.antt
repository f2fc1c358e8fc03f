pub mod Homes
pub mod Segment
pub mod Descriptors
pub mod Texts
pub mod Titles
