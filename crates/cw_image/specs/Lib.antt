pub mod ImageFormat
pub mod Begun
