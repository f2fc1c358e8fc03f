pub mod ObjectContents
pub mod Fits
pub mod IsWritable
pub mod ObjectImages
