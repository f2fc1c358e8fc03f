pub mod Addressing
pub mod Fetching
pub mod Processor
pub mod Reaching
pub mod Views
pub mod Several
