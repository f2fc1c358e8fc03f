pub mod Listed
pub mod Numbers
pub use Rattle.cw_items.specs as things
