pub mod Texts
pub mod Outcomes
pub use Rattle.cw_type.specs as types
