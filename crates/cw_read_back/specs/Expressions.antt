pub mod Leaves
pub mod ReadingBack
pub mod Unplaced
