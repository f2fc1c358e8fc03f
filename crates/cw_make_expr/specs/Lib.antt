pub mod Nodes
pub mod Parts
pub mod Made
pub use Rattle.cw_number.specs as number
