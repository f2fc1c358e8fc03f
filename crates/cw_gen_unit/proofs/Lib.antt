pub mod Layers
pub mod Chains
pub mod PlacedLabels
pub mod WholeUnits
pub mod SwitchMarks
