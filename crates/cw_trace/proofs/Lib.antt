mod Added
mod Marked
mod Told
mod Segment
mod Begun
