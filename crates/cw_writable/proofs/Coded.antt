pub mod Fine
pub mod Numbers
pub mod RangedLayers
pub mod Expressions
pub mod Statements
pub mod Frames
pub mod Units
