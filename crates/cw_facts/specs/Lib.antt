pub mod Uses
pub mod Signatures
pub mod Facts
pub mod Text
