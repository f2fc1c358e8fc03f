pub mod Faults
pub mod Telling
pub mod Kinds
pub mod Types
pub mod Arguments
pub mod TypeRules
pub use Rattle.cw_scope.specs as scope
