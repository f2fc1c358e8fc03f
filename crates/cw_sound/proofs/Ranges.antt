pub mod InRanges
pub mod Nodes
pub mod Places
pub mod Calls
pub mod Given
pub mod RangedTrees
