pub mod Encoding
pub mod State
pub mod Sums
pub mod Shifts
pub mod Products
pub mod Effect
pub mod MachineRun
