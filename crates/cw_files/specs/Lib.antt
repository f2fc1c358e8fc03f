pub mod Texts
pub mod Reading
pub mod Taking
pub use Rattle.cw_say.specs as say
