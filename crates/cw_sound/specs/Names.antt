pub mod Placed
pub mod Found
pub mod Standing
pub mod Faultless
