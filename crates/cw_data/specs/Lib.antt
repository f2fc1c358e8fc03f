pub mod Data
pub mod Presets
pub mod Specifications
pub mod Overlays
pub use Rattle.cw_scale.specs as scale
