pub mod Computed
pub mod LongRuns
pub mod Runs
pub mod WellFormed
