pub mod Lookup
pub mod Types
pub mod Descriptors
pub mod Items
pub use Rattle.cw_number.specs as number
pub use Rattle.cw_number.specs.things as things
pub use Rattle.cw_scale.specs as scale
