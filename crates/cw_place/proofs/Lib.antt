pub mod Fits_first
pub mod Kept
pub mod Keys
pub mod Numbers
pub mod Placed
pub mod SameFits
pub mod Steps
pub mod Valid
