pub mod Order
pub mod Listing
pub mod Rows
pub mod Told
