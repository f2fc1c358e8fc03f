pub mod Tracing
pub mod Laws
