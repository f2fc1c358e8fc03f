pub mod Gathered
pub mod Levels
pub mod Regular
pub mod Answers
pub mod Bodies
pub mod Counted
