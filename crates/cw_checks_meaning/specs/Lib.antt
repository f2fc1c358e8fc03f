pub mod Trees
pub mod Examples
pub mod MoreExamples
pub mod WellFormed
