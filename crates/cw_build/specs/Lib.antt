pub mod Compiled
pub mod Linking
pub mod Building
