pub mod Going
pub mod Executing
pub mod Resulting
pub mod Archiving
pub mod Coding
pub mod Tracing
pub mod Telling
