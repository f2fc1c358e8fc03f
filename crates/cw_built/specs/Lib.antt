pub mod Stored
pub mod Listed
pub mod Built
pub mod Coded
pub mod Named
pub mod Shared
