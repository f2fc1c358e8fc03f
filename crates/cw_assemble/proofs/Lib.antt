pub mod Growing
pub mod Composed
pub mod Flags
pub mod BeforeChecks
pub mod Placing
pub mod NotedBlocks
pub mod Ended
