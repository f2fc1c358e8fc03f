pub mod Few
pub mod Counted
pub mod Faults
pub mod Places
pub mod Told
pub mod Outcomes
