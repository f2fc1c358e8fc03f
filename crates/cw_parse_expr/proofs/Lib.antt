pub mod Operands
pub mod References
