pub mod Clashing
pub mod DataWords
pub mod Numbered
pub mod Opened
pub mod OtherBytes
pub mod Placing
pub mod Segments
pub mod Values
