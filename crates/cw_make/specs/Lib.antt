pub mod Labels
pub mod Switches
pub mod Procedures
pub mod Definitions
pub mod Made
