pub mod Specs
pub mod Taken
pub mod Controls
pub mod Numbered
pub mod Known
pub mod Listed
pub mod Defined
pub mod Uses
