pub mod Closing
pub use Rattle.cw_compile.specs as compile
