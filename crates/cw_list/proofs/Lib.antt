pub mod Ascending
pub mod OneLine
pub mod SegmentRows
