pub mod Watching
pub mod Rising
