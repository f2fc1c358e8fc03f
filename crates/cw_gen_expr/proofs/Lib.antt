pub mod Quotients
pub mod Counting
pub mod Layers
pub mod Scales
pub mod NoLabels
pub mod BestScales
pub mod Making
pub mod Adding
