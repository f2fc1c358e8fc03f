pub mod Taking
pub mod Next
mod Runnables
