pub mod Parts
pub mod Taken
pub use Rattle.cw_files.specs as files
