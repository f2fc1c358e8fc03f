pub mod Gathered
pub mod Mentions
pub mod CallGraph
pub mod Told
pub mod Numbering
pub mod Building
